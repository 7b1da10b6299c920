-- Rounds of a helper, one after another.
use Rattle.std.proofs.Common.{◌≡◌, Bool, List, length, ◌∙◌}
use Rattle.request_turns.specs.Turns.{ManagerPass}
use Rattle.window_desks.specs.Helped.{HaveHelped}
use Rattle.window_desks.specs.declared.helper.HelperRoom.{HelperRoom}
use Rattle.window_desks.proofs.Counted.{have_both}
use Rattle.window_desks.proofs.HelpTurn.{all_kept_both, are_helped_both}

pub rounds_both : {D : Type 0} (tells : Bool) (s t u : HelperRoom) (ps qs rs : List (ManagerPass D)) → length qs ≡ length ps → length rs ≡ length qs → HaveHelped tells s t ps qs → HaveHelped tells t u qs rs → HaveHelped tells s u ps rs
rounds_both tells s t u ps qs rs first then a b = record {
  helped = are_helped_both tells ps qs rs first a.helped b.helped;
  counted = have_both _ _ _ _ _ _ _ first (then ∙ first) a.helped b.helped a.counted b.counted;
  all_kept = all_kept_both tells ps qs rs t.fault u.fault first a.helped b.helped b.refused a.all_kept b.all_kept;
  refused = λ none. a.refused (b.refused none);
  cause = b.cause;
}
