-- What images recover to, as pieces.
use Rattle.std.proofs.Common.{◌≡◌, ◌++◌, ◌∷◌, [], List, take, map, sym, ap, subst, ◌∙◌}
use Rattle.std.specs.Prelude.{unwrap_or}
use Rattle.wol_disk.specs.Disk.{Block, IsBlend}
use Rattle.wol_model.specs.ArrayLaws.{unversioned}
use Rattle.wol_model.specs.Blocks.{Write, after}
use Rattle.wol_model.specs.History.{IsCut, whole, torn, writes, flight_of}
use Rattle.wol_model.proofs.Arrays.{after_versions}
use Rattle.wol_model.proofs.Overlay.{after_more}
use Rattle.wol_promise.specs.Policy.{Look}
use Rattle.wol_promise.specs.Ruled.{Noted, entries_of}
use Rattle.nbd_serving.specs.Pieces.{pieces_of}

-- versions don't matter to the writes before a cut
same_after : (a : List Block) (ws flight : List Write) → after a (map unversioned ws ++ flight) ≡ after a (ws ++ flight)
same_after a ws flight = after_more a (map unversioned ws) flight ∙ ap (λ (x : List Block). after x flight) (after_versions a ws) ∙ sym (after_more a ws flight)

unversioned_cut : (a x : List Block) (ws flight : List Write) → IsCut a ws flight x → IsCut a (map unversioned ws) flight x
unversioned_cut a x ws flight (whole k few same) = whole k few (same ∙ sym (same_after a ws (take k flight)))
unversioned_cut a x ws flight (torn w one home blend) = torn w one home
    (subst (λ (l : List Block). IsBlend l (after a (map unversioned ws ++ w ∷ [])) x) (sym (after_versions a ws))
    (subst (λ (l : List Block). IsBlend (after a ws) l x) (sym (same_after a ws (w ∷ []))) blend))

-- so a cut by the entries of a volume is one by its pieces
pub cut_pieces : (l : Look) (notes : List Noted) (a x : List Block) → IsCut a (writes (entries_of notes)) (unwrap_or (flight_of (entries_of notes)) []) x
    → IsCut a (pieces_of l notes).stand (unwrap_or (pieces_of l notes).flight []) x
cut_pieces l notes a x cut = unversioned_cut a x (writes (entries_of notes)) (unwrap_or (flight_of (entries_of notes)) []) cut
