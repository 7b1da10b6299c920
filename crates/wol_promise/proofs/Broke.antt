-- One Broke more: a disk call failed.
use Rattle.std.proofs.Common.{◌≡◌, ◌≢◌, inl, ◌<◌, ℕ, false, List, [], ◌∷◌, ◌++◌, Option, None, Some, sym, ap, subst, ◌∙◌}
use Rattle.std.specs.Prelude.{is_some}
use Rattle.std.specs.List.{AllByRecursion}
use Rattle.std.specs.Option.{option_or}
use Rattle.std.proofs.lemmas.List.{append-nil}
use Rattle.wol_model.specs.Blocks.{Write, after}
use Rattle.wol_model.specs.History.{Operation, Broke, worker, writes, flight_of, IsLegalNext, IsHelp, IsCut}
use Rattle.wol_promise.specs.Ruled.{Noted, entries_of, IsStep, last_look}
use Rattle.wol_promise.specs.Manager.{Parts, PartName, ManagerSeen, Base, IsPartOf, Recovers}
use Rattle.wol_promise.specs.Stands.{AreKnown, StaySound, HasVersions, HasPlaces, LiesInVolume, Upholds, StandsFor}
use Rattle.wol_promise.proofs.OneMore.{history_more, writes_then, flight_then, stands_then}

-- the next version may have passed already
pub versions_hold : (base : Base) (next : ℕ) (ws : List Write) (fl : List Write) → HasVersions base next ws None → HasVersions base next ws (Some fl)
versions_hold base next ws fl v = record { apart = v.apart; below = v.below; in_order = λ is. absurd (let no : Some fl ≡ None = is in cc); least = v.least; most = v.most }

-- With this part at fault and these writes in flight: what is left to say of the manager m' is which records its segments may have,
-- that its places are in order, and that each choice of images is sound and recovers to a cut.
module _ {P : Type 0} (parts : Parts P) (base : Base) (m m' : ManagerSeen P) (notes : List Noted) (n : Noted) (ws fl : List Write) (name : PartName)
    (u : Upholds parts base m notes ws None) (is_ws : writes (entries_of notes) ≡ ws) (none : flight_of (entries_of notes) ≡ None)
    (broke : n.entry.operation ≡ Broke fl) (helps : n.entry.pass ≢ worker → fl ≡ []) (unruled : n.after_drain ≡ false)
    (lies : AllByRecursion (LiesInVolume base.home_blocks) (base.records ++ (ws ++ fl)))
    (next : m'.next ≡ m.next) (down : m'.down ≡ Some name)
    (known : parts.told → AreKnown base m'.next ws fl m'.held) (places : HasPlaces parts base m'.home m'.held m'.ups)
    (failed : (p : P) × IsPartOf base.view m' name p × (0 < parts.faults p))
    (sound : parts.told → StaySound (λ s. parts.may_be s.part) base.owner base.home_blocks m'.held)
    (cut : parts.told → Recovers (parts.may_be m'.home) (λ s. parts.may_be s.part) base.owner m'.held (IsCut base.array ws fl)) where
  pub broke_more : StandsFor parts base m' (notes ++ n ∷ [])
  broke_more = stands_then parts base m' notes n ws (Some fl)
      (writes_then notes n (Broke fl) broke ∙ append-nil (writes (entries_of notes)) ∙ is_ws)
      (flight_then notes n (Broke fl) broke ∙ ap (λ (o : Option (List Write)). option_or o (Some fl)) none)
      (record {
        began = u.began;
        history = history_more parts.told base notes n u.history (record {
          legal = λ told. subst (IsLegalNext (after base.array (writes (entries_of notes)))) (sym broke) tt;
          unbroken = inl none;
          helps = λ other. subst IsHelp (sym broke) (helps other);
          step = λ ruled. subst (λ (o : Operation). IsStep n n.entry.pass o (last_look base.look notes) n.look) (sym broke) unruled;
        });
        lie = lies;
        versioned = subst (λ (v : ℕ). HasVersions base v ws (Some fl)) (sym next) (versions_hold base m.next ws fl u.versioned);
        known = known;
        places = places;
        is_down = ap is_some down;
        failed = λ other is. subst (λ (q : PartName). (p : P) × IsPartOf base.view m' q p × (0 < parts.faults p)) (let both : Some name ≡ Some other = sym down ∙ is in cc) failed;
        calm = λ is. absurd (let no : Some fl ≡ None = is in cc);
        sound = λ told some. sound told;
        cut = λ told l is. subst (λ (l : List Write). Recovers (parts.may_be m'.home) (λ s. parts.may_be s.part) base.owner m'.held (IsCut base.array ws l)) (let both : Some fl ≡ Some l = is in cc) (cut told);
      })
      (λ is. absurd (let no : Some fl ≡ None = is in cc))
