-- What a pass of a volume added, each note of which has one property.
use Rattle.replay.proofs.Basics.{◌≡◌, ◌++◌, List, [], map, refl, sym, subst, ◌∙◌, append_assoc, append-nil, AllByRecursion, map-append}
use Rattle.replay.proofs.Terms.{IsSamePass, pass_mine, Noted, ManagerPass, coded}
use Rattle.replay.proofs.AnswersServed.{all_both}

pub record Makes {D : Type 0} (Has : Noted → Type 0) (p q : ManagerPass D) : Type 0 where
  pub same : IsSamePass p q
  pub notes : List Noted
  pub mine : pass_mine q ≡ pass_mine p ++ map coded notes
  pub all : AllByRecursion Has notes

module _ {D : Type 0} (Has : Noted → Type 0) where
  pub makes_none : (p : ManagerPass D) → Makes Has p p
  makes_none p = record { same = (refl, refl); notes = []; mine = sym (append-nil (pass_mine p)); all = tt }

  pub makes_both : (p q r : ManagerPass D) → Makes Has p q → Makes Has q r → Makes Has p r
  makes_both p q r a b = record {
    same = (b.same.0 ∙ a.same.0, b.same.1 ∙ a.same.1);
    notes = a.notes ++ b.notes;
    mine = rw (b.mine, a.mine, map-append coded a.notes b.notes) (append_assoc (pass_mine p) (map coded a.notes) (map coded b.notes));
    all = all_both Has a.notes b.notes a.all b.all;
  }

  pub makes_same : (p q : ManagerPass D) → q ≡ p → Makes Has p q
  makes_same p q same = subst (λ x. Makes Has p x) (sym same) (makes_none p)
