use Rattle.std.proofs.Common.{◌≡◌, ◌<◌, ◌≤◌, ◌+◌, ◌-◌, ◌++◌, ◌*◌, ◌∷◌, ℕ, suc, Bool, true, false, List, length, take, get_or, sym, ap, subst, ◌∙◌, append-nil, arith, length-take, cond, ◌^◌}
use Rattle.wol_disk.specs.Disk.{State}
use Rattle.wol_model.specs.Blocks.{Write}
use Rattle.std.specs.Prelude.{IfNone, IfSome, Option, Some}
use Rattle.std.specs.List.{AllByRecursion}
use Rattle.std.proofs.lemmas.List.{length-take-le}
use Rattle.std.proofs.lemmas.List.Sums.{sum_by-take-le}
use Rattle.std.proofs.lemmas.Result.{err_from_is_err_and}
use Rattle.wol_model.specs.Index.{listed_in, is_covered}
use Rattle.redirect_map.specs.Index.{Contents, IsIndex}
use Rattle.spin_model.specs.Spun.{state_of}
use Rattle.log_segment.specs.Records.{count_of}
use Rattle.log_segment.specs.declared.item.Item.{Item}
use Rattle.manager.specs.Groups.{AreItemsOf}
use Rattle.manager.specs.declared.manager.Manager.{Manager}
use Rattle.log_cleaner.specs.Chunks.{AreNext, BecomesTidy, IsAhead, IsTidy, end_of}
use Rattle.log_cleaner.specs.Steps.{AreCoveredIn, RewritesBehind, is_broken, written_of}
use Rattle.log_cleaner.specs.Underway.{CleansBy}
use Rattle.log_cleaner.specs.Cleans.{covered_in}
use Rattle.log_cleaner.proofs.Chunking.{end_past, next_small}
use Rattle.log_cleaner.proofs.Cleaning.{AreStill, Between, are_next, between_copied, between_none, between_same, between_settled, between_tidy, end_at, end_within, ends_by, ends_clean, ends_unsettled, first_still, next_covered_in, next_few, next_front, next_items, refused_same, written_copied}
use Rattle.log_cleaner.proofs.Tidying.{clash}
use Rattle.log_cleaner.proofs.cleaner.clean_all.Given as given
use Rattle.log_cleaner.proofs.cleaner.clean_all.Goals.{After-from-in-chunks, After-gather-gathered, After-rewrite-answer, After-settle-then-written-eq0}
use Rattle.log_cleaner.proofs.cleaner.clean_all.Goals.{then-settled-via-then-settled, then-settled-via-else-settled+then-is_broken}
use Rattle.log_cleaner.proofs.cleaner.clean_all.Goals as goal

-- ---- What a turn of the loop has found so far

-- the next chunk, by the records of the manager
ahead_in : (most from : ℕ) (x y : Contents) → x ≡ y → (next : Option Item) (i : Item) → next ≡ Some i → IfSome next (IsAhead (is_covered (listed_in x.entries)) most from) → IsAhead (is_covered (listed_in y.entries)) most from i
ahead_in most from x y same next i is ahead =
    subst (λ (z : Contents). IsAhead (is_covered (listed_in z.entries)) most from i) same (subst (λ (o : Option Item). IfSome o (IsAhead (is_covered (listed_in x.entries)) most from)) is ahead)

met : (g : given.Over) (c : After-gather-gathered g) → IsAhead (covered_in c.chunks.m) c.args.most c.chunks.from c.in-Some.chunk
met g c = ahead_in c.args.most c.chunks.from c.index.result.now c.chunks.m.index c.index.ensures c.next_chunk-next.result c.in-Some.chunk c.in-Some.is c.next_chunk-next.ensures.ahead

-- it isn't tidy
untidy : (g : given.Over) (c : After-gather-gathered g) → IsTidy (listed_in c.chunks.m.index.entries) c.in-Some.chunk.lbn c.in-Some.chunk.count → ⊥
untidy g c t =
    clash c.is_tidy.result (c.is_tidy.ensures.1 (subst (λ (x : Contents). IsTidy (listed_in x.entries) c.in-Some.chunk.lbn c.in-Some.chunk.count) (sym c.index-in-chunks-2.ensures) t)) c.if-is_tidy.false

-- those behind it that were gathered
more : (g : given.Over) (c : After-gather-gathered g) → AreNext (covered_in c.chunks.m) (listed_in c.chunks.m.index.entries) c.args.most (c.in-Some.chunk.lbn + c.in-Some.chunk.count) c.gather-gathered.ensures.next.0
more g c =
    let end = c.in-Some.chunk.lbn + c.in-Some.chunk.count in
    subst (λ (x : Contents). AreNext (is_covered (listed_in x.entries)) (listed_in x.entries) c.args.most end c.gather-gathered.ensures.next.0) c.index-in-chunks-3.ensures c.gather-gathered.ensures.next.2

-- none of them becomes tidy, and the first one doesn't behind copies
next_in : (x y : Contents) → x ≡ y → (next : Option Item) (i : Item) → next ≡ Some i → IfSome next (λ i. BecomesTidy (listed_in x.entries) i.lbn i.count → IsTidy (listed_in x.entries) i.lbn i.count)
    → BecomesTidy (listed_in y.entries) i.lbn i.count → IsTidy (listed_in y.entries) i.lbn i.count
next_in x y same next i is so =
    subst (λ (z : Contents). BecomesTidy (listed_in z.entries) i.lbn i.count → IsTidy (listed_in z.entries) i.lbn i.count) same
    (subst (λ (o : Option Item). IfSome o (λ i. BecomesTidy (listed_in x.entries) i.lbn i.count → IsTidy (listed_in x.entries) i.lbn i.count)) is so)

still_untidy : (g : given.Over) (c : After-gather-gathered g) → AreStill (listed_in c.chunks.m.index.entries) c.chunks.done.value.items (c.in-Some.chunk ∷ c.gather-gathered.ensures.next.0)
still_untidy g c = (
  first_still g.D.Disk.tells g.D.Disk.state c.args.most c.args.m.now c.chunks.m c.chunks.copied c.chunks.from c.chunks.settled c.requires.can c.chunks.done.value.items c.chunks.invariant.between c.chunks.invariant.ready c.in-Some.chunk (met g c)
      (subst (λ (x : Contents). IsIndex x.entries) c.index.ensures c.next_chunk-next.ensures.index)
      (λ no. next_in c.index-in-chunks.result.now c.chunks.m.index c.index-in-chunks.ensures c.next_chunk-next.result c.in-Some.chunk c.in-Some.is (c.settles_first.ensures.next c.if-settles_first.false no))
      (untidy g c),
  subst (λ (x : Contents). AllByRecursion (λ (i : Item). BecomesTidy (listed_in x.entries) i.lbn i.count → ⊥) c.gather-gathered.ensures.next.0) c.index-in-chunks-3.ensures c.gather-gathered.ensures.next.3,
)

same : (g : given.Over) (c : After-gather-gathered g) → take c.gather-gathered.result.count c.gather-gathered.result.chunks ≡ c.in-Some.chunk ∷ c.gather-gathered.ensures.next.0
same g c = c.gather-gathered.ensures.next.1

next : (g : given.Over) (c : After-gather-gathered g) → IsAhead (covered_in c.chunks.m) c.args.most c.chunks.from c.in-Some.chunk
    → AreNext (covered_in c.chunks.m) (listed_in c.chunks.m.index.entries) c.args.most c.chunks.from (c.in-Some.chunk ∷ c.gather-gathered.ensures.next.0)
next g c met = are_next g.D.Disk.tells g.D.Disk.state c.args.most c.args.m.now c.chunks.m c.chunks.copied c.chunks.from c.chunks.settled c.requires.can c.chunks.done.value.items c.chunks.invariant.between c.chunks.invariant.ready c.in-Some.chunk met (untidy g c) c.gather-gathered.ensures.next.0 (more g c) c.chunks.m

few_next : (g : given.Over) (c : After-gather-gathered g) → IsAhead (covered_in c.chunks.m) c.args.most c.chunks.from c.in-Some.chunk → count_of (c.in-Some.chunk ∷ c.gather-gathered.ensures.next.0) ≤ 128 * length (c.in-Some.chunk ∷ c.gather-gathered.ensures.next.0)
few_next g c met =
    next_few g.D.Disk.state c.chunks.m c.chunks.invariant.ready (listed_in c.chunks.m.index.entries) c.args.most c.chunks.from (c.in-Some.chunk ∷ c.gather-gathered.ensures.next.0) (let m = c.requires.ready.ready.most_.1 in omega (arith, m, c.requires.most)) (next g c met)

-- what writing them came to
told : (g : given.Over) (c : After-rewrite-answer g)
    → RewritesBehind g.D.Disk.tells g.D.Disk.state (c.in-Some.chunk ∷ c.gather-gathered.ensures.next.0) c.chunks.m c.rewrite-answer.new.m c.chunks.done.value.items c.rewrite-answer.new.done.value.items c.rewrite-answer.result
told g c = subst (λ (js : List Item). RewritesBehind g.D.Disk.tells g.D.Disk.state js c.chunks.m c.rewrite-answer.new.m c.chunks.done.value.items c.rewrite-answer.new.done.value.items c.rewrite-answer.result) c.gather-gathered.ensures.next.1 c.rewrite-answer.ensures.rewritten

-- where none was written all stands as before, and segments may be given up
still : (g : given.Over) (c : After-settle-then-written-eq0 g)
    → Between g.D.Disk.tells g.D.Disk.state c.args.most c.args.m.now c.rewrite-answer.new.m c.chunks.copied c.chunks.from false c.rewrite-answer.new.done.value.items
still g c =
    let tells = g.D.Disk.tells in let state = g.D.Disk.state in let most = c.args.most in let old = c.args.m.now in let now = c.chunks.m in
    let mid = c.rewrite-answer.new.m in let done = c.chunks.done.value.items in let answer = c.rewrite-answer.result in
    let chunks = c.in-Some.chunk ∷ c.gather-gathered.ensures.next.0 in
    let told = subst (λ (js : List Item). RewritesBehind tells state js now mid done c.rewrite-answer.new.done.value.items answer) c.gather-gathered.ensures.next.1 c.rewrite-answer.ensures.rewritten in
    let between = subst (λ (s : Bool). Between tells state most old now c.chunks.copied c.chunks.from s done) c.if-settled.false c.chunks.invariant.between in
    let kept = refused_same tells state chunks now mid answer (sym c.written_of-written.ensures ∙ c.if-written-eq0.true) (sym c.is_broken.ensures ∙ c.if-is_broken.false) told.0 in
    let then = told.1 ∙ ap (λ (ws : List Write). done ++ ws) kept.2 ∙ append-nil done in
    subst (Between tells state most old mid c.chunks.copied c.chunks.from false) (sym then) (between_same tells state most old now mid c.chunks.copied c.chunks.from c.requires.can done false between kept.0 kept.1)

abbrev none : Item
none = record { lbn = 0; count = 0 }

-- where the last of those that were written ends
abbrev last_end : (g : given.Over) (c : After-from-in-chunks g) → ℕ
last_end g c = (get_or (take c.gather-gathered.result.count c.gather-gathered.result.chunks) (c.written_of-written.result - 1) none).lbn + c.from-in-chunks.result

-- where some were written the loop goes on behind the last of them
record GoesOnBehind {D : Type 0} (tells : Bool) (state : D → State) (most : ℕ) (old mid : Manager D) (copied from : ℕ) (chunks : List Item) (written end : ℕ) (copies : List Write) : Type 0 where
  pub between : Between tells state most old mid copied end false copies
  pub few : written ≤ length chunks
  pub ends_at : end_of from (take written chunks) ≡ end

behind : (g : given.Over) (c : After-from-in-chunks g) → AreNext (covered_in c.chunks.m) (listed_in c.chunks.m.index.entries) c.args.most c.chunks.from (c.in-Some.chunk ∷ c.gather-gathered.ensures.next.0)
    → AreStill (listed_in c.chunks.m.index.entries) c.chunks.done.value.items (c.in-Some.chunk ∷ c.gather-gathered.ensures.next.0)
    → GoesOnBehind g.D.Disk.tells g.D.Disk.state c.args.most c.args.m.now c.rewrite-answer.new.m (c.chunks.copied + c.blocks_of-copied.result) c.chunks.from (c.in-Some.chunk ∷ c.gather-gathered.ensures.next.0) c.written_of-written.result (last_end g c) c.rewrite-answer.new.done.value.items
behind g c next still_ =
    let tells = g.D.Disk.tells in let state = g.D.Disk.state in let most = c.args.most in let old = c.args.m.now in let now = c.chunks.m in
    let mid = c.rewrite-answer.new.m in let done = c.chunks.done.value.items in let answer = c.rewrite-answer.result in
    let chunks = c.in-Some.chunk ∷ c.gather-gathered.ensures.next.0 in
    let same : take c.gather-gathered.result.count c.gather-gathered.result.chunks ≡ chunks = c.gather-gathered.ensures.next.1 in
    let told = subst (λ (js : List Item). RewritesBehind tells state js now mid done c.rewrite-answer.new.done.value.items answer) same c.rewrite-answer.ensures.rewritten in
    let written = c.written_of-written.result in
    let was = written_copied tells state chunks now mid answer written (sym c.written_of-written.ensures) (omega (arith, c.if-written-eq0.false)) told.0 in
    let then = told.1 ∙ ap (λ (ws : List Write). done ++ ws) was.2 in
    let step = between_copied g.D.Disk.tells g.D.Disk.state c.args.most c.args.m.now c.chunks.m c.chunks.copied c.chunks.from c.chunks.settled c.requires.can c.chunks.done.value.items c.chunks.invariant.between c.chunks.invariant.ready c.in-Some.chunk next.0.ahead next.0.untidy c.gather-gathered.ensures.next.0 next.1 mid still_ written (omega (arith, c.if-written-eq0.false)) was.0 in
    let blocks : c.blocks_of-copied.result ≡ count_of (take written chunks) = c.blocks_of-copied.ensures ∙ ap (λ (js : List Item). count_of (take written js)) same in
    let one : written ≡ suc (written - 1) = omega (arith, c.if-written-eq0.false) in
    let last : Item = get_or (take c.gather-gathered.result.count c.gather-gathered.result.chunks) (written - 1) none in
    let ends_at : end_of c.chunks.from (take written chunks) ≡ last.lbn + c.from-in-chunks.result =
    ap (λ (m : ℕ). end_of c.chunks.from (take m chunks)) one ∙ end_at c.chunks.from (written - 1) chunks none (omega (arith, was.1, c.if-written-eq0.false))
    ∙ ap (λ (js : List Item). (get_or js (written - 1) none).lbn + (get_or js (written - 1) none).count) (sym same) ∙ ap (λ (m : ℕ). last.lbn + m) (sym c.from-in-chunks.ensures) in
    record {
      between = subst (Between tells state most old mid (c.chunks.copied + c.blocks_of-copied.result) (last_end g c) false) (sym then)
          (subst (λ (f : ℕ). Between tells state most old mid (c.chunks.copied + c.blocks_of-copied.result) f false (done ++ was.0.writes)) ends_at
          (subst (λ (b : ℕ). Between tells state most old mid (c.chunks.copied + b) (end_of c.chunks.from (take written chunks)) false (done ++ was.0.writes)) (sym blocks) step));
      few = was.1;
      ends_at = ends_at;
    }

-- ---- Answers

pub chunks-init : goal.chunks-init
chunks-init g c = record {
  ready = c.requires.ready;
  at = c.requires.at;
  width = omega arith;
  between = subst (Between g.D.Disk.tells g.D.Disk.state c.args.most c.args.m.now c.args.m.now 0 0 true) (sym c.requires.none) (between_none g.D.Disk.tells g.D.Disk.state c.args.most c.args.m.now c.requires.can);
}

pub returns-in_default-clause-cleaned : goal.returns-in_default-clause-cleaned
returns-in_default-clause-cleaned g c =
    let i = c.chunks.invariant in
    let between = subst (λ (s : Bool). Between g.D.Disk.tells g.D.Disk.state c.args.most c.args.m.now c.chunks.m c.chunks.copied c.chunks.from s c.chunks.done.value.items) (c.settles_first.ensures.last c.if-settles_first.false c.in_default.is) i.between in
    let bare = subst (λ (o : Option Item). IfNone o ((b : ℕ) → c.chunks.from ≤ b → b < 2 ^ 32 → is_covered (listed_in c.index.result.now.entries) b ≡ false)) c.in_default.is c.next_chunk-next.ensures.none in
    ends_clean g.D.Disk.tells g.D.Disk.state c.args.most c.args.m.now c.chunks.m c.chunks.copied c.chunks.from c.chunks.done.value.items between i.ready (subst (λ (x : Contents). IsIndex x.entries) c.index.ensures c.next_chunk-next.ensures.index)
    (subst (λ (x : Contents). (b : ℕ) → c.chunks.from ≤ b → b < 2 ^ 32 → is_covered (listed_in x.entries) b ≡ false) c.index.ensures bare)

pub returns-in_err-settle-clause-cleaned : goal.returns-in_err-settle-clause-cleaned
returns-in_err-settle-clause-cleaned g c =
    let i = c.chunks.invariant in let p = err_from_is_err_and c.from_residual.result c.from_residual.ensures.1 in
    let between = subst (λ (s : Bool). Between g.D.Disk.tells g.D.Disk.state c.args.most c.args.m.now c.chunks.m c.chunks.copied c.chunks.from s c.chunks.done.value.items) (c.settles_first.ensures.unsettled c.if-settles_first.true) i.between in
    rw (p.1, p.2) (ends_unsettled g.D.Disk.tells g.D.Disk.state c.args.most c.args.m.now c.chunks.m c.settle.new.m c.chunks.copied c.chunks.from c.requires.can c.chunks.done.value.items between true c.in_err-settle.field-0.0 c.in_err-settle.ensures.settled)

pub chunks-preserved-then-settles_first : goal.chunks-preserved-then-settles_first
chunks-preserved-then-settles_first g c =
    let i = c.chunks.invariant in let e = c.in_ok-settle.ensures in
    let between = subst (λ (s : Bool). Between g.D.Disk.tells g.D.Disk.state c.args.most c.args.m.now c.chunks.m c.chunks.copied c.chunks.from s c.chunks.done.value.items) (c.settles_first.ensures.unsettled c.if-settles_first.true) i.between in record {
      ready = e.ready;
      at = e.at;
      width = i.width;
      between = between_settled g.D.Disk.tells g.D.Disk.state c.args.most c.args.m.now c.chunks.m c.settle.new.m c.chunks.copied c.chunks.from c.requires.can c.chunks.done.value.items between true e.settled;
    }

pub chunks-smaller-then-settles_first : goal.chunks-smaller-then-settles_first
chunks-smaller-then-settles_first g c =
    let unsettled = c.settles_first.ensures.unsettled c.if-settles_first.true in
    let less : 3 * (2 ^ 32 - c.chunks.from) + cond true 0 1 + cond c.chunks.lean 0 1 < 3 * (2 ^ 32 - c.chunks.from) + cond false 0 1 + cond c.chunks.lean 0 1 = omega arith in
    subst (λ (s : Bool). 3 * (2 ^ 32 - c.chunks.from) + cond true 0 1 + cond c.chunks.lean 0 1 < 3 * (2 ^ 32 - c.chunks.from) + cond s 0 1 + cond c.chunks.lean 0 1) (sym unsettled) less

pub gather-gathered-requires-clause-within : goal.gather-gathered-requires-clause-within
gather-gathered-requires-clause-within g c = end_within g.D.Disk.tells g.D.Disk.state c.args.most c.args.m.now c.chunks.m c.chunks.copied c.chunks.from c.chunks.settled c.requires.can c.chunks.done.value.items c.chunks.invariant.between c.chunks.invariant.ready c.in-Some.chunk (ahead_in c.args.most c.chunks.from c.index.result.now c.chunks.m.index c.index.ensures c.next_chunk-next.result c.in-Some.chunk c.in-Some.is c.next_chunk-next.ensures.ahead)

pub rewrite-answer-requires-clause-some : goal.rewrite-answer-requires-clause-some
rewrite-answer-requires-clause-some g c = let e = ap length (same g (goal.at.rewrite-answer-requires-clause-some g c).After-gather-gathered) in omega (arith, e)

pub rewrite-answer-requires-clause-few : goal.rewrite-answer-requires-clause-few
rewrite-answer-requires-clause-few g c =
    let gathered = c.gather-gathered.result in let t = length-take gathered.count gathered.chunks in let k = c.gather-gathered.ensures.count in omega (arith, t, k)

pub rewrite-answer-requires-clause-chunks : goal.rewrite-answer-requires-clause-chunks
rewrite-answer-requires-clause-chunks g c =
    let state = g.D.Disk.state in let now = c.chunks.m in let i = c.chunks.invariant in
    subst (AreItemsOf now.most (state_of state now.home).size) (sym (same g (goal.at.rewrite-answer-requires-clause-chunks g c).After-gather-gathered))
    (subst (λ (m : ℕ). AreItemsOf m (state_of state now.home).size (c.in-Some.chunk ∷ c.gather-gathered.ensures.next.0)) (c.requires.most ∙ sym i.between.done.copied.goes_on.same.most)
    (next_items state now i.ready (listed_in now.index.entries) c.args.most c.chunks.from (c.in-Some.chunk ∷ c.gather-gathered.ensures.next.0) (next g (goal.at.rewrite-answer-requires-clause-chunks g c).After-gather-gathered (met g (goal.at.rewrite-answer-requires-clause-chunks g c).After-gather-gathered))))

pub rewrite-answer-requires-clause-covered : goal.rewrite-answer-requires-clause-covered
rewrite-answer-requires-clause-covered g c =
    subst (AreCoveredIn c.chunks.m) (sym (same g (goal.at.rewrite-answer-requires-clause-covered g c).After-gather-gathered))
    (next_covered_in g.D.Disk.state c.chunks.m c.chunks.invariant.ready (listed_in c.chunks.m.index.entries) c.args.most c.chunks.from (c.in-Some.chunk ∷ c.gather-gathered.ensures.next.0) (next g (goal.at.rewrite-answer-requires-clause-covered g c).After-gather-gathered (met g (goal.at.rewrite-answer-requires-clause-covered g c).After-gather-gathered)))

pub rewrite-answer-requires-clause-room : goal.rewrite-answer-requires-clause-room
rewrite-answer-requires-clause-room g c =
    let is = same g (goal.at.rewrite-answer-requires-clause-room g c).After-gather-gathered in
    let few = few_next g (goal.at.rewrite-answer-requires-clause-room g c).After-gather-gathered (met g (goal.at.rewrite-answer-requires-clause-room g c).After-gather-gathered) in
    let e = ap count_of is in let l = ap length is in let k = c.gather-gathered.ensures.count in let t = length-take c.gather-gathered.result.count c.gather-gathered.result.chunks in omega (arith, few, e, l, k, t, c.requires.room)

pub returns-then-settled-clause-cleaned : goal.returns-then-settled-clause-cleaned
returns-then-settled-clause-cleaned g c =
    let said = told g (goal.at.returns-then-settled-clause-cleaned g c).After-rewrite-answer in let answer = c.rewrite-answer.result in
    let so : is_broken answer ≡ false → c.chunks.settled ≡ true = λ whole. elim c.then-settled.branch [
      | then-settled-via-then-settled w ↦ w.if-settled.true
      | then-settled-via-else-settled+then-is_broken w ↦ absurd (clash (is_broken answer) (sym w.is_broken.ensures ∙ w.if-is_broken.true) whole)
    ] in
    let ahead = next g (goal.at.returns-then-settled-clause-cleaned g c).After-gather-gathered (met g (goal.at.returns-then-settled-clause-cleaned g c).After-gather-gathered) in
    let x = ends_by g.D.Disk.tells g.D.Disk.state c.args.most c.args.m.now c.chunks.m c.chunks.copied c.chunks.from c.chunks.settled c.requires.can c.chunks.done.value.items c.chunks.invariant.between c.chunks.invariant.ready c.in-Some.chunk ahead.0.ahead ahead.0.untidy c.gather-gathered.ensures.next.0 ahead.1 c.rewrite-answer.new.m (still_untidy g (goal.at.returns-then-settled-clause-cleaned g c).After-gather-gathered) answer (sym c.written_of-written.ensures ∙ c.if-written-eq0.true) so said.0 in
    rw c.ended.ensures (subst (λ (ws : List Write). CleansBy g.D.Disk.tells g.D.Disk.state c.args.most c.args.m.now c.rewrite-answer.new.m ws (Rattle.log_cleaner.specs.Steps.ended c.chunks.copied answer)) (sym said.1) x)

pub returns-in_err-settle-2-clause-cleaned : goal.returns-in_err-settle-2-clause-cleaned
returns-in_err-settle-2-clause-cleaned g c =
    let p = err_from_is_err_and c.from_residual-in_err-settle-2.result c.from_residual-in_err-settle-2.ensures.1 in
    rw (p.1, p.2) (ends_unsettled g.D.Disk.tells g.D.Disk.state c.args.most c.args.m.now c.rewrite-answer.new.m c.settle-then-written-eq0.new.m c.chunks.copied c.chunks.from c.requires.can c.rewrite-answer.new.done.value.items
    (still g (goal.at.returns-in_err-settle-2-clause-cleaned g c).After-settle-then-written-eq0) c.chunks.lean c.in_err-settle-2.field-0.0 c.in_err-settle-2.ensures.settled)

pub chunks-preserved-then-written-eq0 : goal.chunks-preserved-then-written-eq0
chunks-preserved-then-written-eq0 g c =
    let e = c.in_ok-settle-2.ensures in
    record {
      ready = e.ready;
      at = e.at;
      width = c.chunks.invariant.width;
      between = between_settled g.D.Disk.tells g.D.Disk.state c.args.most c.args.m.now c.rewrite-answer.new.m c.settle-then-written-eq0.new.m c.chunks.copied c.chunks.from c.requires.can c.rewrite-answer.new.done.value.items
          (still g (goal.at.chunks-preserved-then-written-eq0 g c).After-settle-then-written-eq0) c.chunks.lean e.settled;
    }

pub chunks-preserved-then-is_tidy : goal.chunks-preserved-then-is_tidy
chunks-preserved-then-is_tidy g c =
    let i = c.chunks.invariant in
    rw c.from.ensures (record {
      ready = i.ready;
      at = i.at;
      width = i.width;
      between = between_tidy g.D.Disk.tells g.D.Disk.state c.args.most c.args.m.now c.chunks.m c.chunks.copied c.chunks.from c.chunks.settled c.requires.can c.chunks.done.value.items c.chunks.invariant.between c.chunks.invariant.ready c.in-Some.chunk (ahead_in c.args.most c.chunks.from c.index.result.now c.chunks.m.index c.index.ensures c.next_chunk-next.result c.in-Some.chunk c.in-Some.is c.next_chunk-next.ensures.ahead)
          (subst (λ (x : Contents). IsTidy (listed_in x.entries) c.in-Some.chunk.lbn c.in-Some.chunk.count) c.index-in-chunks-2.ensures (c.is_tidy.ensures.0 c.if-is_tidy.true));
    })

pub chunks-preserved : goal.chunks-preserved
chunks-preserved g c =
    let e = c.rewrite-answer.ensures in
    record {
      ready = e.ready;
      at = e.at;
      width = c.next_width-width.ensures;
      between = (behind g (goal.at.chunks-preserved g c).After-from-in-chunks (next g (goal.at.chunks-preserved g c).After-gather-gathered (met g (goal.at.chunks-preserved g c).After-gather-gathered)) (still_untidy g (goal.at.chunks-preserved g c).After-gather-gathered)).between;
    }

pub blocks_of-copied-requires-clause-small : goal.blocks_of-copied-requires-clause-small
blocks_of-copied-requires-clause-small g c =
    let now = c.chunks.m in let written = c.written_of-written.result in
    subst (λ (js : List Item). AllByRecursion (λ (j : Item). j.count ≤ 128) (take written js)) (sym (same g (goal.at.blocks_of-copied-requires-clause-small g c).After-gather-gathered))
    (next_small (covered_in now) (listed_in now.index.entries) c.args.most c.chunks.from (take written (c.in-Some.chunk ∷ c.gather-gathered.ensures.next.0)) (let m = c.requires.ready.ready.most_.1 in omega (arith, m, c.requires.most))
    (next_front (covered_in now) (listed_in now.index.entries) c.args.most written c.chunks.from (c.in-Some.chunk ∷ c.gather-gathered.ensures.next.0) (next g (goal.at.blocks_of-copied-requires-clause-small g c).After-gather-gathered (met g (goal.at.blocks_of-copied-requires-clause-small g c).After-gather-gathered))))

pub overflow_add-copied : goal.overflow_add-copied
overflow_add-copied g c =
    let written = c.written_of-written.result in let is = same g (goal.at.overflow_add-copied g c).After-gather-gathered in let i = c.chunks.invariant in
    let few = few_next g (goal.at.overflow_add-copied g c).After-gather-gathered (met g (goal.at.overflow_add-copied g c).After-gather-gathered) in
    let l = ap length is in let k = c.gather-gathered.ensures.count in let t = length-take c.gather-gathered.result.count c.gather-gathered.result.chunks in
    let fewer = sum_by-take-le (λ (j : Item). j.count) (c.in-Some.chunk ∷ c.gather-gathered.ensures.next.0) written in
    let e = c.blocks_of-copied.ensures ∙ ap (λ (js : List Item). count_of (take written js)) is in
    let f = i.between.few in let w = i.between.within in omega (arith, few, l, k, t, fewer, e, f, w)

pub overflow_add-from-in-chunks : goal.overflow_add-from-in-chunks
overflow_add-from-in-chunks g c = let w = (behind g (goal.at.overflow_add-from-in-chunks g c).After-from-in-chunks (next g (goal.at.overflow_add-from-in-chunks g c).After-gather-gathered (met g (goal.at.overflow_add-from-in-chunks g c).After-gather-gathered)) (still_untidy g (goal.at.overflow_add-from-in-chunks g c).After-gather-gathered)).between.within in omega (arith, w)

pub chunks-smaller : goal.chunks-smaller
chunks-smaller g c =
    let now = c.chunks.m in let written = c.written_of-written.result in
    let ahead = next g (goal.at.chunks-smaller g c).After-gather-gathered (met g (goal.at.chunks-smaller g c).After-gather-gathered) in
    let on = behind g (goal.at.chunks-smaller g c).After-from-in-chunks ahead (still_untidy g (goal.at.chunks-smaller g c).After-gather-gathered) in
    let w = on.between.within in let ends_at = on.ends_at in
    let front = next_front (covered_in now) (listed_in now.index.entries) c.args.most written c.chunks.from (c.in-Some.chunk ∷ c.gather-gathered.ensures.next.0) ahead in
    let some = length-take-le written (c.in-Some.chunk ∷ c.gather-gathered.ensures.next.0) on.few in
    let past = end_past (covered_in now) (listed_in now.index.entries) c.args.most c.chunks.from (take written (c.in-Some.chunk ∷ c.gather-gathered.ensures.next.0)) (omega (arith, some, c.if-written-eq0.false)) front in
    let less : 3 * (2 ^ 32 - last_end g (goal.at.chunks-smaller g c).After-from-in-chunks) + cond false 0 1 + cond false 0 1 < 3 * (2 ^ 32 - c.chunks.from) + cond c.chunks.settled 0 1 + cond c.chunks.lean 0 1 = omega (arith, w, ends_at, past) in
    less
