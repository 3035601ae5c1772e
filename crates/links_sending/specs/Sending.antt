-- What an order does to the table, what it sends, and to whom (01, "Links and commands"). Assumes nothing.
use Rattle.std.specs.Prelude.{◌≡◌, true, false, List, [], ◌∷◌, ℕ, ◌≤◌, length}
use Rattle.few.specs.declared.Few.{Few}
use Rattle.few.specs.Bytes.{few, contents}
use Rattle.values.specs.Large.{Values}
use Rattle.links_wiring.specs.declared.Module.{Module}
use Rattle.links_wiring.specs.declared.Each.{Each}
use Rattle.links_wiring.specs.Each.{Row, Table, all, of, with, either}
use Rattle.links_wiring.specs.Tables.{row_of}
use Rattle.links_replies.specs.Replies.{reply_of}
use Rattle.links_commands.specs.declared.Order.{Order}
use Rattle.links_commands.specs.declared.Order.TheVariants.{Nothing, Pass, Pair, Link, Ask}
use Rattle.links_changes.specs.Linking.{table_after}
use Rattle.links_sending.specs.declared.Obeyed.{Obeyed}

-- what each receiver gets
abbrev pub Sent : Type 0
Sent = Each (Few 5)

-- bytes in five places, and how many they are
abbrev pub packed : List ℕ → Few 5
packed vs = few 5 vs

-- to each receiver that a row marks, the same bytes; to the others none
abbrev pub to : Row → Few 5 → Sent
to w b = either w b (packed [])

abbrev pub nowhere : Row
nowhere = all false

-- nothing to anybody
abbrev pub silence : Sent
silence = to nowhere (packed [])

abbrev pub only_to : Module → Row
only_to m = with nowhere m true

-- what is passed on goes by the links of its sender; an answer goes "to the module that sent them and whatever its
-- links"
abbrev pub receivers_for : Table → Module → Order → Row
receivers_for t from Nothing = nowhere
receivers_for t from (Pass v) = row_of t from
receivers_for t from (Pair v) = row_of t from
receivers_for t from (Link receiver sender on) = only_to from
receivers_for t from (Ask receiver) = only_to from

-- a value; "ESC .. with its next code"; "PRO3, 6/3, receiver and the status code"
abbrev pub bytes_for : Table → Order → List ℕ
bytes_for t Nothing = []
bytes_for t (Pass v) = v ∷ []
bytes_for t (Pair v) = 27 ∷ v ∷ []
bytes_for t (Link receiver sender on) = reply_of t receiver
bytes_for t (Ask receiver) = reply_of t receiver

abbrev pub sent_for : Table → Module → Order → Sent
sent_for t from o = to (receivers_for t from o) (packed (bytes_for t o))

-- what is sent goes by the table after the order, and tells it
unfoldable pub obeyed : Table → Module → Order → Obeyed
obeyed t from o = record { table = table_after t o; sent = sent_for (table_after t o) from o }

-- what a receiver gets
abbrev pub part_of : Sent → Module → Few 5
part_of s receiver = of s receiver

abbrev pub gets : Sent → Module → List ℕ
gets s receiver = contents (part_of s receiver)

-- ---- how much that is

-- "One input byte sends at most five bytes to any receiver"; "What the links send carries no parity"
abbrev pub FewIn : Few 5 → Type 0
FewIn b = (b.count ≤ 5) × (length (contents b) ≡ b.count) × Values (contents b)
