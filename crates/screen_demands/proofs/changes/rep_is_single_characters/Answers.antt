-- The theorem is proved where its words are. Assumes nothing.
use Rattle.screen.proofs.Shown.{character_there, character_leaves, again_there}
use Rattle.screen.proofs.Repeated.{text_step, second_step, swallowed_step, again_step, low_step, never_step}
use Rattle.screen_demands.proofs.changes.rep_is_single_characters.Goals as goal

pub returns : goal.returns
returns c = record {
  one = text_step;
  second = λ s b e h. (second_step s b e h, swallowed_step s b e h);
  there = character_there;
  leaves = character_leaves;
  again = again_step;
  each = again_there;
  never = never_step;
  low = low_step;
}
