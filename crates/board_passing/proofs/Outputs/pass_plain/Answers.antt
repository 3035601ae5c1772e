-- `board_passing::Outputs::pass_plain` meets its contract. Assumes nothing.
use Rattle.few.specs.Bytes.{contents}
use Rattle.board_passing.specs.Passing.{held}
use Rattle.board_passing.proofs.Spread.{onward_is, handed_is, plain_sent, plain_links}
use Rattle.board_passing.proofs.Outputs.pass_plain.Goals as goal

pub returns-clause-value : goal.returns-clause-value
returns-clause-value c =
    let a = c.args in
    simp (
      c.put_where.ensures.value,
      c.put_where-2.ensures.value,
      c.put_where-3.ensures.value,
      c.put_where-4.ensures.value,
      c.bytes-plain.ensures,
    ) (onward_is a.at.links (contents a.values) a.at.gathered a.at.used (held a.gathered.now a.self.now)
    (plain_links a.at.links a.values.codes a.values.count c.requires) (plain_sent a.at.links a.values.codes a.values.count c.requires))

pub returns-clause-left : goal.returns-clause-left
returns-clause-left c =
    let a = c.args in
    simp (
      c.put_where.ensures.left,
      c.put_where-2.ensures.left,
      c.put_where-3.ensures.left,
      c.put_where-4.ensures.left,
      c.bytes-plain.ensures,
    ) (handed_is a.at.links (contents a.values) a.at.gathered a.at.used (held a.gathered.now a.self.now)
    (plain_links a.at.links a.values.codes a.values.count c.requires) (plain_sent a.at.links a.values.codes a.values.count c.requires))
