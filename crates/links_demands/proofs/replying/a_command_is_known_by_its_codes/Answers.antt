-- The theorem is proved where its words are. Assumes nothing.
use Rattle.links_commands.proofs.Known.{in_two, link_ordered, ask_ordered, spelled_for}
use Rattle.links_demands.proofs.replying.a_command_is_known_by_its_codes.Goals as goal

pub returns : goal.returns
returns c = record {
  whole = in_two;
  link = link_ordered;
  ask = ask_ordered;
  only = spelled_for;
}
