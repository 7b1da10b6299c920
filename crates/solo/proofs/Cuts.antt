-- What a stop leaves of a disk, one request after another.
use Rattle.std.proofs.Common.{◌≡◌, List, [], ◌∷◌, ◌++◌, take, Option, None, Some, Result, Ok, Err, refl, sym, ap, subst, ◌∙◌, append_assoc, append-nil, arith, map}
use Rattle.std.specs.Prelude.{option_map, OnOk, OnErr}
use Rattle.std.specs.List.{range_with_len}
use Rattle.wol_disk.specs.Disk.{AddsSomeOf, Block, Values, added, put, reads, settled}
use Rattle.wol_disk.proofs.Calls.{after_sync, after_write, settled_only}
use Rattle.wol_model.specs.Blocks.{Write, after}
use Rattle.wol_model.specs.History.{IsCut, whole, torn}
use Rattle.wol_model.specs.Trace.{Request, payload, payload_block, payloads}
use Rattle.wol_model.specs.declared.trace.Kind.TheVariants as kind
use Rattle.wol_model.proofs.Arrays.{after_put}
use Rattle.wol_model.proofs.Overlay.{after_more, after_none}
use Rattle.solo.specs.Served.{IsSettled, LeavesCutOf, content_after, content_of}
use Rattle.solo.proofs.Marks.{payloads_append}

cut_none : (a : List Block) (ws flight : List Write) → IsCut a ws flight (after a ws)
cut_none a ws flight = whole 0 (omega arith) (ap (after a) (sym (append-nil ws)))

cut_later : (a : List Block) (earlier ws flight : List Write) (image : List Block) → IsCut (after a earlier) ws flight image → IsCut a (earlier ++ ws) flight image
cut_later a earlier ws flight image (whole k le is) =
    whole k le (is ∙ sym (after_more a earlier (ws ++ take k flight)) ∙ ap (after a) (sym (append_assoc earlier ws (take k flight))))
cut_later a earlier ws flight image (torn w is home blend) =
    torn w is home (rw (append_assoc earlier ws (w ∷ []), after_more a earlier ws, after_more a earlier (ws ++ w ∷ [])) blend)

-- after other requests
pub cuts_after : (array : Option (List Block)) (rs answered flight : List Request) (values : Option (List (Values Block))) → LeavesCutOf (content_after rs array) answered flight values → LeavesCutOf array (rs ++ answered) flight values
cuts_after None rs answered flight values left = tt
cuts_after (Some a) rs answered flight None left = absurd left
cuts_after (Some a) rs answered flight (Some vs) left = λ image is.
    rw (payloads_append rs answered) (cut_later a (payloads 0 rs) (payloads 0 answered) (payloads 0 flight) image (left image is))

-- a disk on which all is synced
pub settled_cuts : (values : Option (List (Values Block))) (flight : List Request) → IsSettled values → LeavesCutOf (content_of values) [] flight values
settled_cuts None flight one = tt
settled_cuts (Some vs) flight one = λ image is.
    whole 0 (omega arith) (settled_only (Some vs) (reads vs) image one is ∙ sym (after_none (reads vs)))

-- .. after requests
pub answered_cuts : (array : Option (List Block)) (rs : List Request) (values : Option (List (Values Block))) → IsSettled values → content_of values ≡ content_after rs array → LeavesCutOf array rs [] values
answered_cuts None rs values one is = tt
answered_cuts (Some a) rs None one is = absurd (cc is)
answered_cuts (Some a) rs (Some vs) one is = λ image of.
    let now : image ≡ reads vs = settled_only (Some vs) (reads vs) image one of in
    let then : reads vs ≡ after a (payloads 0 rs) = cc is in
    subst (λ (x : List Block). IsCut a (payloads 0 rs) [] x) (sym (now ∙ then)) (cut_none a (payloads 0 rs) [])

-- a write, whatever it answered
one_payload : (r : Request) → r.kind ≡ kind.Write → r.volume ≡ 0 → payloads 0 (r ∷ []) ≡ payload r ∷ []
one_payload r is on = rw (is, on) refl

pub write_cuts : {T E : Type 0} (result : Result T E) (r : Request) (blocks : List Block) (old mid : Option (List (Values Block))) → IsSettled old → r.kind ≡ kind.Write → r.volume ≡ 0 → blocks ≡ map (payload_block r.line) (range_with_len r.first r.count)
    → OnOk result (mid ≡ option_map (added r.first blocks) old) → OnErr result (AddsSomeOf r.first blocks old mid) → LeavesCutOf (content_of old) [] (r ∷ []) mid
write_cuts result r blocks None mid one is on filled ok err = tt
write_cuts (Ok x) r blocks (Some vs) None one is on filled ok err = absurd (cc ok)
write_cuts (Err e) r blocks (Some vs) None one is on filled ok err = absurd err
write_cuts result r blocks (Some vs) (Some ws) one is on filled ok err = λ image of.
    let (d, was, blend) = after_write result r.first blocks (Some vs) (Some ws) image ok err of in
    let before : d ≡ reads vs = settled_only (Some vs) (reads vs) d one was in
    let put_is : put r.first blocks d ≡ after (reads vs) (payload r ∷ []) = rw (before, filled) (sym (after_put (reads vs) (payload r))) in
    torn (payload r) (one_payload r is on) refl (rw (after_none (reads vs)) (rw (put_is, before) at blend))

pub sync_cuts : {T E : Type 0} (result : Result T E) (array : Option (List Block)) (answered flight : List Request) (old new : Option (List (Values Block))) → OnOk result (new ≡ option_map settled old) → OnErr result (new ≡ old)
    → LeavesCutOf array answered flight old → LeavesCutOf array answered flight new
sync_cuts result None answered flight old new ok err left = tt
sync_cuts result (Some a) answered flight None new ok err left = absurd left
sync_cuts (Ok x) (Some a) answered flight (Some vs) None ok err left = absurd (cc ok)
sync_cuts (Err e) (Some a) answered flight (Some vs) None ok err left = absurd (cc err)
sync_cuts result (Some a) answered flight (Some vs) (Some ws) ok err left = λ image is. left image (after_sync result (Some vs) (Some ws) image ok err is)
