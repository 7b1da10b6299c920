use Rattle.std.proofs.Common.{◌≡◌, List, ℕ, false, true, sym, ◌∙◌, ap, Bool}
use Rattle.std.proofs.lemmas.Slice.Eq.{bytes_eq-Decides}
use Rattle.std.specs.Str.{bytes_eq}
use Rattle.wol_model.specs.Heads.{SegmentHead, Free, Owned, segment_block, SpellsSegment}
use Rattle.log_layout.proofs.Decode.{owner_back}
use Rattle.log_layout.proofs.segment.read_seg.Goals as goal

-- both tests failed
neither : (b x y : List ℕ) (r r' : Bool) (h : SegmentHead) → SpellsSegment b h → x ≡ segment_block Free → ((o : ℕ) → SpellsSegment b (Owned o) → y ≡ segment_block (Owned o))
    → r ≡ bytes_eq x b → r' ≡ bytes_eq y b → r ≡ false → r' ≡ false → ⊥
neither b x y r r' Free s free owned e e' n n' = let yes : r ≡ true = e ∙ (bytes_eq-Decides x b).1 (free ∙ sym s.bytes) in cc (yes, n)
neither b x y r r' (Owned o) s free owned e e' n n' = let yes : r' ≡ true = e' ∙ (bytes_eq-Decides y b).1 (owned o s ∙ sym s.bytes) in cc (yes, n')

pub returns-clause-none : goal.returns-clause-none
returns-clause-none c h s =
    neither c.args.b.now c.write_seg.new.b c.write_seg-2.new.b c.eq.result c.eq-2.result h s c.write_seg.ensures
    (λ o t. c.write_seg-2.ensures ∙ ap (λ (n : ℕ). segment_block (Owned n)) (c.u32_at-owner.ensures ∙ owner_back c.args.b.now o t)) c.eq.ensures c.eq-2.ensures c.if-eq.false c.if-eq-2.false
