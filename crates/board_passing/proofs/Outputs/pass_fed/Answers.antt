-- `board_passing::Outputs::pass_fed` meets its contract. Assumes nothing.
use Rattle.few.specs.Bytes.{contents}
use Rattle.board_passing.specs.Passing.{held}
use Rattle.board_passing.proofs.Spread.{onward_is, handed_is, fed_sent, fed_links}
use Rattle.board_passing.proofs.Outputs.pass_fed.Goals as goal

pub returns-clause-value : goal.returns-clause-value
returns-clause-value c =
    let a = c.args in
    let vs = contents a.values in
    simp (
      c.bytes.ensures,
      c.bytes-2.ensures,
      c.bytes-3.ensures,
      c.bytes-4.ensures,
      c.add.ensures.value,
      c.add-2.ensures.value,
      c.add-3.ensures.value,
      c.add-4.ensures.value,
    ) (onward_is a.at.links vs a.at.gathered a.at.used (held a.gathered.now a.self.now)
    (fed_links a.at.links vs c.feed-fed.result c.feed-fed.ensures.0) (fed_sent a.at.links vs c.feed-fed.result c.feed-fed.ensures.0))

pub returns-clause-left : goal.returns-clause-left
returns-clause-left c =
    let a = c.args in
    let vs = contents a.values in
    simp (
      c.bytes.ensures,
      c.bytes-2.ensures,
      c.bytes-3.ensures,
      c.bytes-4.ensures,
      c.add.ensures.left,
      c.add-2.ensures.left,
      c.add-3.ensures.left,
      c.add-4.ensures.left,
    ) (handed_is a.at.links vs a.at.gathered a.at.used (held a.gathered.now a.self.now)
    (fed_links a.at.links vs c.feed-fed.result c.feed-fed.ensures.0) (fed_sent a.at.links vs c.feed-fed.result c.feed-fed.ensures.0))
