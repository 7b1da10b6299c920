-- Chunk after chunk becomes tidy.
use Rattle.std.proofs.Common.{◌≡◌, ◌⊎◌, inl, inr, ⊎_elim, ◌<◌, ◌≤◌, ◌+◌, ◌*◌, ◌^◌, ℕ, zero, suc, Bool, true, false, ◌&&◌, ◌||◌, List, [], ◌∷◌, ◌++◌, map, length, take, get_or, Some, Result, Ok, Err, refl, sym, ap, subst, ◌∙◌, arith, leb, ltb, length-append, append_assoc}
use Rattle.std.specs.Prelude.{⊤, ◌↔◌, Contains}
use Rattle.std.specs.List.{AllByRecursion, range_with_len}
use Rattle.std.proofs.lemmas.Bool.{cases_lt, leb-true, ltb-true, le-leb, lt-ltb}
use Rattle.std.proofs.lemmas.List.{append-nil, map-append}
use Rattle.std.proofs.lemmas.List.Sums.{sum_by-append}
use Rattle.wol_disk.specs.Disk.{State}
use Rattle.spin_model.specs.Spun.{state_of}
use Rattle.wol_model.specs.Blocks.{Write}
use Rattle.wol_model.specs.Index.{Listed, Indexed, AreRising, listed_in, cover_of, block_numbers, goes, is_covered}
use Rattle.wol_model.proofs.Counts.{marked_within}
use Rattle.wol_model.specs.Placing.{Log}
use Rattle.wol_promise.specs.Policy.{Look, listing, placed}
use Rattle.log_segment.specs.Records.{count_of}
use Rattle.log_segment.specs.declared.item.Item.{Item}
use Rattle.manager.specs.Groups.{AreItemsOf, placed_all}
use Rattle.manager.specs.Seen.{look_of_manager}
use Rattle.manager.proofs.GroupRecords.{count_more}
use Rattle.wol_promise.proofs.Covers.{any_found}
use Rattle.wol_promise.proofs.Lists.{all_push, all_mapped, all_map, all_member, range_push}
use Rattle.redirect_map.specs.Index.{IsEntry, IsIndex}
use Rattle.manager.specs.Stands.{IsInVolume, IsReady}
use Rattle.manager.specs.declared.manager.Manager.{Manager}
use Rattle.manager.proofs.RunSources.{same_version}
use Rattle.log_cleaner.specs.Chunks.{AreNext, AreTidyBelow, AreUntidyBehind, BecomesTidy, HasLive, IsAhead, IsChunk, IsNext, IsTidy, IsTidyBehind, IsUppermost, KeepsJust, KeepsNone, NoneGoes, NoneHomed, end_of, is_copied, is_within}
use Rattle.log_cleaner.specs.Cleans.{CanClean, HasCleaned, HasSettled, IsChunkOf, IsLeftUntidy, IsListedIn, IsOfUntidy, TellsCleaned, copied_blocks, covered_in}
use Rattle.log_cleaner.specs.Copies.{AreCopies}
use Rattle.log_cleaner.specs.Steps.{AreCopiesAt, AreCoveredIn, HasBroken, HasCopied, HasRewritten, IsCopyAt, IsRefused, KeepsTidy, Rewrites, Settles, TidiesAll, ended, is_broken, rewritten, written_of}
use Rattle.log_cleaner.specs.Underway.{AreChunks, CleansBy, EndsBy, HasCleanedSome}
use Rattle.log_cleaner.specs.declared.answer.Cleaned.{Cleaned}
use Rattle.log_cleaner.specs.declared.answer.CleanFault.{CleanFault}
use Rattle.log_cleaner.specs.declared.answer.CleanFault.TheVariants.{DiskFault, VersionsSpent, NoMemory}
use Rattle.log_cleaner.proofs.Chunking.{IsCutAt, chunk_at, cut_behind, cut_next, same_chunk}
use Rattle.log_cleaner.proofs.Copying.{leaves_copies}
use Rattle.log_cleaner.proofs.Stepping.{broken_then, copied_none, copied_then, empty_since}
use Rattle.log_cleaner.proofs.Together.{copied_count, listing_below}
use Rattle.log_cleaner.proofs.Lists.{all_both, each_is_member}
use Rattle.log_cleaner.proofs.Lives.{IsTop, listing_live, listing_lived, live_of, one_live, same_listed, top_of}
use Rattle.log_cleaner.proofs.Tidying.{both_ways, clash, covers, goes_of_newer, listing_newest, listing_tidy, listing_unhomed, listing_upper, member_unmap, not_so, tidy_of_upper, upper_of_tidy, within_first}

-- ---- Within

pub inside_of : (first count b : ℕ) → is_within first count b ≡ true → (first ≤ b) × (b < first + count)
inside_of first count b is = at (leb first b) refl is
  where
    at : (t : Bool) → leb first b ≡ t → (t && ltb b (first + count)) ≡ true → (first ≤ b) × (b < first + count)
    at true low high = (leb-true first b low, ltb-true b (first + count) high)
    at false low high = absurd (let wrong : false ≡ true = high in cc)

pub of_inside : (first count b : ℕ) → first ≤ b → b < first + count → is_within first count b ≡ true
of_inside first count b low high = (λ i. le-leb first b low i && ltb b (first + count)) ∙ lt-ltb b (first + count) high

-- a covered block lies in the volume
pub covered_within : {D : Type 0} (state : D → State) (m : Manager D) → IsReady state m → (b : ℕ) → covered_in m b ≡ true → b < (state_of state m.home).size
covered_within state m ready b is =
    let f = any_found (λ (e : Listed). covers e b) (listed_in m.index.entries) is in
    let lies = all_member (λ (e : Listed). e.first + length e.keep ≤ (state_of state m.home).size) (listed_in m.index.entries) f.item
    (all_mapped (λ (e : Listed). e.first + length e.keep ≤ (state_of state m.home).size) (λ (e : Indexed). e.listed) m.index.entries
    (all_map (IsInVolume (state_of state m.home).size) (λ (e : Indexed). e.listed.first + length e.listed.keep ≤ (state_of state m.home).size) (λ e in_. in_.lies) m.index.entries ready.ranges)) f.among in
    let w = marked_within f.item.first f.item.keep b f.passes in let h = w.1 in
    omega (arith, lies, h)

pub chunk_fits : {D : Type 0} (state : D → State) (m : Manager D) (first count : ℕ) → IsReady state m → 1 ≤ count → ((b : ℕ) → is_within first count b ≡ true → covered_in m b ≡ true) → first + count ≤ (state_of state m.home).size
chunk_fits state m first zero ready some covered = absurd (omega (arith, some))
chunk_fits state m first (suc n) ready some covered =
    let lt = covered_within state m ready (first + n) (covered (first + n) (of_inside first (suc n) (first + n) (omega arith) (omega arith))) in omega (arith, lt)

-- ---- One chunk

module _ (l : Look) (lane first count version : ℕ) (w : Write) (unhomed : NoneHomed l.listed) (is : IsCopyAt first count version w) where
  -- its blocks have the record of the write
  newest_upper : AllByRecursion (λ (e : Listed). e.version < l.next) l.listed → IsUppermost (listing l lane w) l.next first count
  newest_upper below = subst (λ (n : ℕ). IsUppermost (listing l lane w) l.next first n) is.count_is
      (subst (λ (f : ℕ). IsUppermost (listing l lane w) l.next f (length w.blocks)) is.first_is (listing_newest l lane w unhomed below))

  apart_of : (f c : ℕ) → ((b : ℕ) → is_within f c b ≡ true → is_within first count b ≡ false) → (b : ℕ) → is_within f c b ≡ true → is_within w.first (length w.blocks) b ≡ false
  apart_of f c apart b inside = ap (λ (n : ℕ). is_within w.first n b) is.count_is ∙ ap (λ (n : ℕ). is_within n count b) is.first_is ∙ apart b inside

  -- chunks apart from it stay tidy, and keep their uppermost records
  others_tidy : (f c : ℕ) → ((b : ℕ) → is_within f c b ≡ true → is_within first count b ≡ false) → IsTidy l.listed f c → IsTidy (listing l lane w) f c
  others_tidy f c apart t = listing_tidy l lane w unhomed f c (apart_of f c apart) t

  others_upper : (u f c : ℕ) → ((b : ℕ) → is_within f c b ≡ true → is_within first count b ≡ false) → IsUppermost l.listed u f c → IsUppermost (listing l lane w) u f c
  others_upper u f c apart x = listing_upper l lane w unhomed u f c (apart_of f c apart) x

-- where none was written, and no call of a disk failed, the records are as they were
pub refused_same : {D : Type 0} (tells : Bool) (state : D → State) (items : List Item) (old new : Manager D) (answer : Result ℕ CleanFault) → written_of answer ≡ 0 → is_broken answer ≡ false → (r : Rewrites tells state items old new answer)
    → HasCopied tells state old new [] × (new.index.entries ≡ old.index.entries) × (rewritten tells state items old new answer r ≡ [])
refused_same tells state items old new (Ok zero) none whole r = (r.copied, r.entries, refl)
refused_same tells state items old new (Ok (suc n)) none whole r = absurd (let wrong : suc n ≡ 0 = none in omega (arith, wrong))
refused_same tells state items old new (Err (DiskFault p)) none whole r = absurd (let wrong : true ≡ false = whole in cc)
refused_same tells state items old new (Err VersionsSpent) none whole r = (r.0, r.2, refl)
refused_same tells state items old new (Err NoMemory) none whole r = (r.0, r.1, refl)

-- where some were written they were copied
pub written_copied : {D : Type 0} (tells : Bool) (state : D → State) (items : List Item) (old new : Manager D) (answer : Result ℕ CleanFault) (n : ℕ) → written_of answer ≡ n → 1 ≤ n → (r : Rewrites tells state items old new answer)
    → (x : HasRewritten tells state (take n items) old new) × (n ≤ length items) × (rewritten tells state items old new answer r ≡ x.writes)
written_copied tells state items old new (Ok zero) n is some r = absurd (let e : 0 ≡ n = is in omega (arith, e, some))
written_copied tells state items old new (Ok (suc k)) n is some r =
    let P : ℕ → Type 0 = λ m. (x : HasRewritten tells state (take m items) old new) × (m ≤ length items) × (r.0.writes ≡ x.writes) in subst P is (r.0, r.1, refl)
written_copied tells state items old new (Err fault) n is some r = absurd (let e : 0 ≡ n = is in omega (arith, e, some))

-- ---- Several chunks

-- one more, above the others
pub rising_push : (vs : List ℕ) (v : ℕ) → AreRising vs → AllByRecursion (λ (u : ℕ). u < v) vs → AreRising (vs ++ v ∷ [])
rising_push [] v rising less = (tt, tt)
rising_push (u ∷ vs) v rising less = (all_push (λ (w : ℕ). u < w) vs v rising.0 less.0, rising_push vs v rising.1 less.1)

-- one more, of a chunk that wasn't tidy behind them
untidy_push : (es : List Listed) (before ws : List Write) (v : Write) → AreUntidyBehind es before ws → ((before ++ ws ≡ [] → ⊥) → IsTidyBehind es (before ++ ws) v.first (length v.blocks) → ⊥) → AreUntidyBehind es before (ws ++ v ∷ [])
untidy_push es before [] v are last = (subst (λ (l : List Write). (l ≡ [] → ⊥) → IsTidyBehind es l v.first (length v.blocks) → ⊥) (append-nil before) last, tt)
untidy_push es before (w ∷ ws) v are last = (
  are.0,
  untidy_push es (before ++ w ∷ []) ws v are.1 (subst (λ (l : List Write). (l ≡ [] → ⊥) → IsTidyBehind es l v.first (length v.blocks) → ⊥) (sym (append_assoc before (w ∷ []) ws)) last),
)

-- a copy more, behind the others, of a chunk that wasn't tidy
pub chunks_more : (covered : ℕ → Bool) (es : List Listed) (most next first count : ℕ) (copies more : List Write) → AreChunks covered es most next copies → IsChunk covered most first count → (IsTidy es first count → ⊥) → ((copies ≡ [] → ⊥) → IsTidyBehind es copies first count → ⊥) → AllByRecursion (λ (w : Write). w.first < first) copies
    → length more ≤ 1 → AllByRecursion (IsCopyAt first count (next + length copies)) more → AreChunks covered es most next (copies ++ more)
chunks_more covered es most next first count copies [] are chunk untidy still behind one all = subst (AreChunks covered es most next) (sym (append-nil copies)) are
chunks_more covered es most next first count copies (w ∷ []) are chunk untidy still behind one all = record {
  chunks = all_push (IsChunkOf covered most) copies w are.chunks (subst (λ (f : ℕ). IsChunk covered most f (length w.blocks)) (sym all.0.first_is) (subst (IsChunk covered most first) (sym all.0.count_is) chunk));
  untidy = all_push (IsOfUntidy es) copies w are.untidy (λ t. untidy (subst (λ (f : ℕ). IsTidy es f count) all.0.first_is (subst (IsTidy es w.first) all.0.count_is t)));
  still_untidy = untidy_push es [] copies w are.still_untidy (λ some t. still some (subst (λ (f : ℕ). IsTidyBehind es copies f count) all.0.first_is (subst (IsTidyBehind es copies w.first) all.0.count_is t)));
  in_order = subst AreRising (sym (map-append (λ (v : Write). v.first) copies (w ∷ [])))
      (rising_push (map (λ (v : Write). v.first) copies) w.first are.in_order (subst (λ (f : ℕ). AllByRecursion (λ (u : ℕ). u < f) (map (λ (v : Write). v.first) copies)) (sym all.0.first_is)
      (all_mapped (λ (u : ℕ). u < first) (λ (v : Write). v.first) copies behind)));
  numbered = map-append (λ (v : Write). v.version) copies (w ∷ []) ∙ (λ i. are.numbered i ++ all.0.version_is i ∷ [])
      ∙ sym (ap (λ (n : ℕ). map (λ v. Some v) (range_with_len next n)) long ∙ ap (map (λ v. Some v)) (range_push next (length copies)) ∙ map-append (λ (v : ℕ). Some v) (range_with_len next (length copies)) ((next + length copies) ∷ []));
}
  where
    long : length (copies ++ w ∷ []) ≡ suc (length copies)
    long = let l = length-append copies (w ∷ []) in omega (arith, l)
chunks_more covered es most next first count copies (w ∷ v ∷ more) are chunk untidy still behind one all = absurd (omega (arith, one))

pub chunks_none : (covered : ℕ → Bool) (es : List Listed) (most next : ℕ) → AreChunks covered es most next []
chunks_none covered es most next = record { chunks = tt; untidy = tt; still_untidy = tt; in_order = tt; numbered = refl }

some_last : {X : Type 0} (xs : List X) (x : X) → xs ++ x ∷ [] ≡ [] → ⊥
some_last [] x is = absurd (let no : x ∷ [] ≡ [] = is in cc)
some_last (y ∷ xs) x is = absurd (let no : y ∷ (xs ++ x ∷ []) ≡ [] = is in cc)

pub blocks_more : (copies : List Write) (w : Write) → copied_blocks (copies ++ w ∷ []) ≡ copied_blocks copies + length w.blocks
blocks_more copies w = let e = sum_by-append (λ (v : Write). length v.blocks) copies (w ∷ []) in omega (arith, e)

-- each covered block below this one lies in a chunk that has an uppermost record
abbrev pub AreUpperBelow : (covered : ℕ → Bool) → (most from : ℕ) → List Listed → Type 0
AreUpperBelow covered most from es = (b : ℕ) → b < from → covered b ≡ true → (first : ℕ) × (count : ℕ) × IsChunk covered most first count × (first ≤ b) × (b < first + count) × ((version : ℕ) × IsUppermost es version first count)

-- the record of the write is the uppermost that keeps just its blocks
abbrev pub IsUpperCopy : List Listed → Write → Type 0
IsUpperCopy es w = (version : ℕ) × (w.version ≡ Some version) × IsUppermost es version w.first (length w.blocks)

-- covered blocks as they were at the beginning, between chunks
pub record Between {D : Type 0} (tells : Bool) (state : D → State) (most : ℕ) (old now : Manager D) (copied from : ℕ) (settled : Bool) (copies : List Write) : Type 0 where
  pub done : HasCleanedSome tells state most old now copies
  pub count : copied ≡ copied_blocks copies
  pub few : copied ≤ from
  pub within : from ≤ 2 ^ 32
  -- each chunk before has an uppermost record, and is tidy once all was given up that may go
  pub upper : AreUpperBelow (covered_in old) most from (listed_in now.index.entries)
  pub tidy : settled ≡ true → AreTidyBelow (covered_in old) most from (listed_in now.index.entries)
  pub some : settled ≡ false → copies ≡ [] → ⊥
  pub cut : covered_in old from ≡ true → IsCutAt (covered_in old) most from
  -- the copies lie before, and what was tidy behind is still
  pub behind : AllByRecursion (λ (w : Write). w.first < from) copies
  pub stays : (f c : ℕ) → 1 ≤ c → from ≤ f → IsTidy (listed_in old.index.entries) f c → IsTidy (listed_in now.index.entries) f c
  -- and what was live there is
  pub live : (v x : ℕ) → from ≤ x → HasLive (listed_in old.index.entries) v x ↔ HasLive (listed_in now.index.entries) v x
  -- nothing may go once all was given up
  pub quiet : settled ≡ true → (copies ≡ [] → ⊥) → NoneGoes (listed_in now.index.entries)
  -- the copies are among the records
  pub listed : AllByRecursion (IsUpperCopy (listed_in now.index.entries)) copies

pub between_none : {D : Type 0} (tells : Bool) (state : D → State) (most : ℕ) (m : Manager D) → CanClean m → Between tells state most m m 0 0 true []
between_none tells state most m can = record {
  done = record { chunks = chunks_none (covered_in m) (listed_in m.index.entries) most m.next; copied = copied_none tells state m can; untouched = λ none. refl };
  count = refl;
  few = omega arith;
  within = omega arith;
  upper = λ b lt is. absurd (omega (arith, lt));
  tidy = λ yes_ b lt is. absurd (omega (arith, lt));
  some = λ wrong. absurd (let no_ : true ≡ false = wrong in cc);
  cut = λ is. Rattle.log_cleaner.proofs.Chunking.cut_at_none (covered_in m) most;
  behind = tt;
  stays = λ f c some le t. t;
  live = λ v x le. (λ h. h, λ h. h);
  quiet = λ yes_ some. absurd (some refl);
  listed = tt;
}

-- what was copied is listed, and nothing may go behind it
has_settled : (es : List Listed) (copies : List Write) → AllByRecursion (IsUpperCopy es) copies → ((copies ≡ [] → ⊥) → NoneGoes es) → HasSettled es copies
has_settled es copies listed quiet = record { listed = all_map (IsUpperCopy es) (IsListedIn es) (λ w x. (x.0, x.1, x.2.one)) copies listed; none_goes = quiet }

-- ---- Giving up what may go

module _ {D : Type 0} (tells : Bool) (state : D → State) (most : ℕ) (old now new : Manager D) (copied from : ℕ) (can : CanClean old) (copies : List Write) where
  -- after a step that changed no record
  pub between_same : (settled : Bool) → Between tells state most old now copied from settled copies → HasCopied tells state now new [] → new.index.entries ≡ now.index.entries → Between tells state most old new copied from settled copies
  between_same settled b same entries = record {
    done = record {
      chunks = b.done.chunks;
      copied = subst (HasCopied tells state old new) (append-nil copies) (copied_then tells state old now new copies [] can b.done.copied same);
      untouched = λ none. entries ∙ b.done.untouched none;
    };
    count = b.count;
    few = b.few;
    within = b.within;
    upper = subst (λ (es : List Indexed). AreUpperBelow (covered_in old) most from (listed_in es)) (sym entries) b.upper;
    tidy = λ yes_. subst (λ (es : List Indexed). AreTidyBelow (covered_in old) most from (listed_in es)) (sym entries) (b.tidy yes_);
    some = b.some;
    cut = b.cut;
    behind = b.behind;
    stays = λ f c least le t. subst (λ (es : List Indexed). IsTidy (listed_in es) f c) (sym entries) (b.stays f c least le t);
    live = λ v x le. subst (λ (es : List Indexed). HasLive (listed_in old.index.entries) v x ↔ HasLive (listed_in es) v x) (sym entries) (b.live v x le);
    quiet = λ yes_ some. subst (λ (es : List Indexed). NoneGoes (listed_in es)) (sym entries) (b.quiet yes_ some);
    listed = subst (λ (es : List Indexed). AllByRecursion (IsUpperCopy (listed_in es)) copies) (sym entries) b.listed;
  }

  module _ (b : Between tells state most old now copied from false copies) where
    pub between_settled : (all : Bool) → HasCopied tells state now new [] × KeepsTidy now new × (all ≡ true → TidiesAll now new × NoneGoes (listed_in new.index.entries)) → Between tells state most old new copied from all copies
    between_settled all s = record {
      done = record {
        chunks = b.done.chunks;
        copied = subst (HasCopied tells state old new) (append-nil copies) (copied_then tells state old now new copies [] can b.done.copied s.0);
        untouched = λ none. absurd (b.some refl none);
      };
      count = b.count;
      few = b.few;
      within = b.within;
      upper = λ x lt is. let o = b.upper x lt is in (o.0, o.1, o.2, o.3, o.4, (o.5.0, s.1.upper o.5.0 o.0 o.1 o.2.some o.5.1));
      tidy = λ yes_ x lt is. let o = b.upper x lt is in (o.0, o.1, o.2, o.3, o.4, (s.2 yes_).0 o.0 o.1 o.2.some o.5.0 o.5.1);
      some = λ no_ none. b.some refl none;
      cut = b.cut;
      behind = b.behind;
      stays = λ f c least le t. s.1.tidy f c least (b.stays f c least le t);
      live = λ v x le. let o = b.live v x le in let k = s.1.live v x in (λ h. k.0 (o.0 h), λ h. o.1 (k.1 h));
      quiet = λ yes_ some. (s.2 yes_).1;
      listed = all_both (IsChunkOf (covered_in old) most) (IsUpperCopy (listed_in now.index.entries)) (IsUpperCopy (listed_in new.index.entries))
          (λ w chunk x. (x.0, x.1, s.1.upper x.0 w.first (length w.blocks) chunk.some x.2)) copies b.done.chunks.chunks b.listed;
    }

    -- a call of a disk failed
    pub ends_unsettled : (all : Bool) (fault : CleanFault) → Settles tells state all now new (Err fault) → EndsBy tells state most old new copies fault
    ends_unsettled all (DiskFault p) broken = (b.done.chunks, subst (HasBroken tells state old new p) (append-nil copies) (broken_then tells state old now new p copies [] can b.done.copied broken))
    ends_unsettled all VersionsSpent broken = absurd broken
    ends_unsettled all NoMemory broken = absurd broken

-- ---- Chunks behind others

-- what is so of chunks before a block and of the records, whatever the manager
record Upto (covered : ℕ → Bool) (olds : List Listed) (most next from : ℕ) (es : List Listed) (copies : List Write) : Type 0 where
  chunks : AreChunks covered olds most next copies
  few : copied_blocks copies ≤ from
  within : from ≤ 2 ^ 32
  upper : AreUpperBelow covered most from es
  cut : covered from ≡ true → IsCutAt covered most from
  behind : AllByRecursion (λ (w : Write). w.first < from) copies
  stays : (f c : ℕ) → 1 ≤ c → from ≤ f → IsTidy olds f c → IsTidy es f c
  live : (v x : ℕ) → from ≤ x → HasLive olds v x ↔ HasLive es v x
  listed : AllByRecursion (IsUpperCopy es) copies

module _ (covered : ℕ → Bool) (most from : ℕ) (i : Item) (n : IsAhead covered most from i) where
  next_here : covered i.lbn ≡ true
  next_here = n.run i.lbn (omega arith) (let s = n.some in omega (arith, s))

  next_chunk : (covered from ≡ true → IsCutAt covered most from) → IsChunk covered most i.lbn i.count
  next_chunk cut = chunk_at covered most i.lbn i.count (cut_next covered most from i.lbn cut n.low n.bare next_here) n.some n.few n.run n.ends

  -- what is so of the chunks before and of this one is so of those up to its end
  one_more : (P : ℕ → ℕ → Type 0) → IsChunk covered most i.lbn i.count → ((x : ℕ) → x < from → covered x ≡ true → (first : ℕ) × (c : ℕ) × IsChunk covered most first c × (first ≤ x) × (x < first + c) × P first c) → P i.lbn i.count
      → (x : ℕ) → x < i.lbn + i.count → covered x ≡ true → (first : ℕ) × (c : ℕ) × IsChunk covered most first c × (first ≤ x) × (x < first + c) × P first c
  one_more P chunk before now_ x lt is = at (cases_lt x from) (cases_lt x i.lbn)
    where
      at : (x < from) ⊎ (from ≤ x) → (x < i.lbn) ⊎ (i.lbn ≤ x) → (first : ℕ) × (c : ℕ) × IsChunk covered most first c × (first ≤ x) × (x < first + c) × P first c
      at (inl l) other = before x l is
      at (inr g) (inl l) = absurd (clash (covered x) is (n.bare x g l))
      at (inr g) (inr h) = (i.lbn, i.count, chunk, h, lt, now_)

-- no copy before a chunk has a block of it, or one behind
none_copied : (covered : ℕ → Bool) (most from first count : ℕ) → from ≤ first → IsChunk covered most first count → (copies : List Write) → AllByRecursion (IsChunkOf covered most) copies → AllByRecursion (λ (w : Write). w.first < from) copies
    → (x : ℕ) → first ≤ x → is_copied copies x ≡ false
none_copied covered most from first count le chunk [] all behind x more = refl
none_copied covered most from first count le chunk (w ∷ ws) all behind x more =
    let out : is_within w.first (length w.blocks) x ≡ false = not_so (is_within w.first (length w.blocks) x) (λ at.
    let v = inside_of w.first (length w.blocks) x at in let high = v.1 in let lt = behind.0 in let some = chunk.some in
    let same = (same_chunk covered most w.first (length w.blocks) first count first all.0 chunk (omega (arith, lt, le)) (omega (arith, high, more)) (omega arith) (omega (arith, some))).0 in omega (arith, same, lt, le)) in
    λ i. out i || none_copied covered most from first count le chunk ws all.1 behind.1 x more i

-- so one that is tidy behind them has the live blocks of one record
becomes_behind : (es : List Listed) (copies : List Write) (first count : ℕ) → ((x : ℕ) → first ≤ x → is_copied copies x ≡ false) → IsTidyBehind es copies first count → BecomesTidy es first count
becomes_behind es copies first count none t = (t.0, λ x le. (λ h. (t.1 x).0 (h, none x le), λ is. ((t.1 x).1 is).0))

-- no one of these becomes tidy; of the first one it is known where there are copies
abbrev pub AreStill : List Listed → (copies : List Write) → List Item → Type 0
AreStill es copies [] = ⊤
AreStill es copies (i ∷ items) = ((copies ≡ [] → ⊥) → BecomesTidy es i.lbn i.count → ⊥) × AllByRecursion (λ (j : Item). BecomesTidy es j.lbn j.count → ⊥) items

still_rest : (es : List Listed) (copies : List Write) (items : List Item) → AllByRecursion (λ (j : Item). BecomesTidy es j.lbn j.count → ⊥) items → AreStill es copies items
still_rest es copies [] all = tt
still_rest es copies (i ∷ items) all = (λ some. all.0, all.1)

still_front : (es : List Listed) (copies : List Write) (k : ℕ) (items : List Item) → AreStill es copies items → AreStill es copies (take k items)
still_front es copies zero items are = tt
still_front es copies (suc k) [] are = tt
still_front es copies (suc k) (i ∷ items) are = (are.0, fewer k items are.1)
  where
    fewer : (k : ℕ) (items : List Item) → AllByRecursion (λ (j : Item). BecomesTidy es j.lbn j.count → ⊥) items → AllByRecursion (λ (j : Item). BecomesTidy es j.lbn j.count → ⊥) (take k items)
    fewer zero items all = tt
    fewer (suc k) [] all = tt
    fewer (suc k) (j ∷ items) all = (all.0, fewer k items all.1)

-- a chunk more
upto_more : (covered : ℕ → Bool) (olds : List Listed) (most next from : ℕ) (l : Look) (lane : ℕ) (copies : List Write) → Upto covered olds most next from l.listed copies → NoneHomed l.listed → AllByRecursion (λ (e : Listed). e.version < l.next) l.listed
    → l.next ≡ next + length copies → (i : Item) → IsNext covered olds most from i → ((copies ≡ [] → ⊥) → BecomesTidy olds i.lbn i.count → ⊥) → i.lbn + i.count ≤ 2 ^ 32 → (w : Write) → IsCopyAt i.lbn i.count (next + length copies) w → Upto covered olds most next (i.lbn + i.count) (listing l lane w) (copies ++ w ∷ [])
upto_more covered olds most next from l lane copies u unhomed below version i n still size w is = record {
  chunks = chunks_more covered olds most next i.lbn i.count copies (w ∷ []) u.chunks chunk n.untidy (λ some t. still some (becomes_behind olds copies i.lbn i.count (none_copied covered most from i.lbn i.count n.ahead.low chunk copies u.chunks.chunks u.behind) t)) behind_later (omega arith) (is, tt);
  few = let f = u.few in let e = blocks_more copies w in let c = is.count_is in let low = n.ahead.low in omega (arith, f, e, c, low);
  within = size;
  upper = one_more covered most from i n.ahead (λ first c. (version : ℕ) × IsUppermost (listing l lane w) version first c) chunk
      (λ x lt inside. let o = u.upper x lt inside in (o.0, o.1, o.2, o.3, o.4, (o.5.0, others_upper l lane i.lbn i.count (next + length copies) w unhomed is o.5.0 o.0 o.1 (λ y within. apart_from x lt o.0 o.1 o.2 o.3 o.4 y within) o.5.1)))
      (l.next, newest_upper l lane i.lbn i.count (next + length copies) w unhomed is below);
  cut = λ here. cut_behind covered most i.lbn i.count chunk here;
  behind = all_push (λ (v : Write). v.first < i.lbn + i.count) copies w
      (all_map (λ (v : Write). v.first < from) (λ (v : Write). v.first < i.lbn + i.count) (λ v lt. let low = n.ahead.low in omega (arith, lt, low)) copies u.behind) (let f = is.first_is in let s = n.ahead.some in omega (arith, f, s));
  stays = λ f c least le x. others_tidy l lane i.lbn i.count (next + length copies) w unhomed is f c (λ y inside. Rattle.log_cleaner.proofs.Tidying.not_so (is_within i.lbn i.count y) (λ at.
      let v = inside_of f c y inside in let k = inside_of i.lbn i.count y at in let a = v.0 in let h = k.1 in omega (arith, a, h, le))) (u.stays f c least (let low = n.ahead.low in omega (arith, le, low)) x);
  live = λ v x le. let o = u.live v x (let low = n.ahead.low in omega (arith, le, low)) in (λ h. listing_live l lane w unhomed v x (outside x le) (o.0 h), λ h. o.1 (listing_lived l lane w unhomed v x (outside x le) h));
  listed = all_push (IsUpperCopy (listing l lane w)) copies w
      (all_both (λ (v : Write). IsChunkOf covered most v × (v.first < from)) (IsUpperCopy l.listed) (IsUpperCopy (listing l lane w)) (λ v at x. (
        x.0,
        x.1,
        others_upper l lane i.lbn i.count (next + length copies) w unhomed is x.0 v.first (length v.blocks)
            (λ y inside. apart_from v.first at.1 v.first (length v.blocks) at.0 (omega arith) (let some = at.0.some in omega (arith, some)) y inside) x.2,
      )) copies
      (all_both (IsChunkOf covered most) (λ (v : Write). v.first < from) (λ (v : Write). IsChunkOf covered most v × (v.first < from)) (λ v at less. (at, less)) copies u.chunks.chunks u.behind) u.listed)
      (l.next, is.version_is ∙ ap (λ (n : ℕ). Some n) (sym version), listing_newest l lane w unhomed below);
}
  where
    outside : (x : ℕ) → i.lbn + i.count ≤ x → is_within w.first (length w.blocks) x ≡ false
    outside x le = not_so (is_within w.first (length w.blocks) x) (λ at. let v = inside_of w.first (length w.blocks) x at in let high = v.1 in let f = is.first_is in let c = is.count_is in omega (arith, high, f, c, le))

    chunk : IsChunk covered most i.lbn i.count
    chunk = next_chunk covered most from i n.ahead u.cut

    behind_later : AllByRecursion (λ (v : Write). v.first < i.lbn) copies
    behind_later = all_map (λ (v : Write). v.first < from) (λ (v : Write). v.first < i.lbn) (λ v lt. let low = n.ahead.low in omega (arith, lt, low)) copies u.behind

    apart_from : (x : ℕ) → x < from → (f c : ℕ) → IsChunk covered most f c → f ≤ x → x < f + c → (y : ℕ) → is_within f c y ≡ true → is_within i.lbn i.count y ≡ false
    apart_from x lt f c k lo hi y inside = Rattle.log_cleaner.proofs.Tidying.not_so (is_within i.lbn i.count y) (λ at.
        let v = inside_of f c y inside in let z = inside_of i.lbn i.count y at in
        let same = (same_chunk covered most f c i.lbn i.count y k chunk v.0 v.1 z.0 z.1).0 in let low = n.ahead.low in omega (arith, lt, lo, same, low))

-- chunks more
upto_all : (covered : ℕ → Bool) (olds : List Listed) (most next lane : ℕ) (items : List Item) (ws : List Write) (from : ℕ) (l : Look) (copies : List Write) → Upto covered olds most next from l.listed copies → NoneHomed l.listed
    → AllByRecursion (λ (e : Listed). e.version < l.next) l.listed → l.next ≡ next + length copies → AreNext covered olds most from items → AreStill olds copies items → AllByRecursion (λ (i : Item). i.lbn + i.count ≤ 2 ^ 32) items → AreCopiesAt (next + length copies) items ws
    → Upto covered olds most next (end_of from items) (placed_all (Log lane) l ws).listed (copies ++ ws)
upto_all covered olds most next lane [] [] from l copies u unhomed below version are still sizes at = subst (Upto covered olds most next from l.listed) (sym (append-nil copies)) u
upto_all covered olds most next lane [] (w ∷ ws) from l copies u unhomed below version are still sizes at = absurd at
upto_all covered olds most next lane (i ∷ items) [] from l copies u unhomed below version are still sizes at = absurd at
upto_all covered olds most next lane (i ∷ items) (w ∷ ws) from l copies u unhomed below version are still sizes at =
    subst (Upto covered olds most next (end_of (i.lbn + i.count) items) (placed_all (Log lane) (placed (Log lane) l w) ws).listed) (append_assoc copies (w ∷ []) ws)
    (upto_all covered olds most next lane items ws (i.lbn + i.count) (placed (Log lane) l w) (copies ++ w ∷ []) (upto_more covered olds most next from l lane copies u unhomed below version i are.0 still.0 sizes.0 w at.0)
    (listing_unhomed l lane w unhomed) (listing_below lane l w unhomed below) (let e = length-append copies (w ∷ []) in let f : l.next + 1 ≡ next + length (copies ++ w ∷ []) = omega (arith, e, version) in f) are.1 (still_rest olds (copies ++ w ∷ []) items still.1) sizes.1
    (subst (λ (v : ℕ). AreCopiesAt v items ws) (let e = length-append copies (w ∷ []) in let f : next + length copies + 1 ≡ next + length (copies ++ w ∷ []) = omega (arith, e) in f) at.1))

-- the first ones of them end with the last one
pub end_at : (from k : ℕ) (items : List Item) (d : Item) → k < length items → end_of from (take (suc k) items) ≡ (get_or items k d).lbn + (get_or items k d).count
end_at from k [] d lt = absurd (omega (arith, lt))
end_at from zero (i ∷ items) d lt = refl
end_at from (suc k) (i ∷ items) d lt = end_at (i.lbn + i.count) k items d (omega (arith, lt))

-- the first ones of them
pub next_front : (covered : ℕ → Bool) (es : List Listed) (most k from : ℕ) (items : List Item) → AreNext covered es most from items → AreNext covered es most from (take k items)
next_front covered es most zero from items are = tt
next_front covered es most (suc k) from [] are = tt
next_front covered es most (suc k) from (i ∷ items) are = (are.0, next_front covered es most k (i.lbn + i.count) items are.1)

-- where the same blocks are covered
ahead_since : (covered before : ℕ → Bool) (most from : ℕ) (i : Item) → ((b : ℕ) → covered b ≡ before b) → IsAhead covered most from i → IsAhead before most from i
ahead_since covered before most from i same n = record {
  low = n.low;
  bare = λ b l h. sym (same b) ∙ n.bare b l h;
  some = n.some;
  few = n.few;
  run = λ b l h. sym (same b) ∙ n.run b l h;
  ends = λ less. sym (same (i.lbn + i.count)) ∙ n.ends less;
}

-- and what was tidy behind a block is still
next_since : (covered before : ℕ → Bool) (es olds : List Listed) (most from : ℕ) → ((b : ℕ) → covered b ≡ before b) → ((f c : ℕ) → 1 ≤ c → from ≤ f → IsTidy olds f c → IsTidy es f c)
    → (at : ℕ) → from ≤ at → (items : List Item) → AreNext covered es most at items → AreNext before olds most at items
next_since covered before es olds most from same stays at le [] are = tt
next_since covered before es olds most from same stays at le (i ∷ items) are =
    let n = are.0 in (
      record {
        ahead = ahead_since covered before most at i same n.ahead;
        untidy = λ t. n.untidy (stays i.lbn i.count n.ahead.some (let low = n.ahead.low in omega (arith, le, low)) t);
      },
      next_since covered before es olds most from same stays (i.lbn + i.count) (let low = n.ahead.low in omega (arith, le, low)) items are.1,
    )

-- what becomes tidy of the records at the beginning does so still
becomes_since : (es olds : List Listed) (from : ℕ) → ((v x : ℕ) → from ≤ x → HasLive olds v x ↔ HasLive es v x) → (first count : ℕ) → from ≤ first → BecomesTidy olds first count → BecomesTidy es first count
becomes_since es olds from live first count le t = (t.0, λ x more. let k = live t.0 x (omega (arith, le, more)) in (λ h. (t.1 x more).0 (k.1 h), λ is. k.0 ((t.1 x more).1 is)))

still_since : (covered : ℕ → Bool) (es olds : List Listed) (most from : ℕ) → ((v x : ℕ) → from ≤ x → HasLive olds v x ↔ HasLive es v x) → (at : ℕ) → from ≤ at → (items : List Item) → AreNext covered es most at items
    → AllByRecursion (λ (j : Item). BecomesTidy es j.lbn j.count → ⊥) items → AllByRecursion (λ (j : Item). BecomesTidy olds j.lbn j.count → ⊥) items
still_since covered es olds most from live at le [] are all = tt
still_since covered es olds most from live at le (i ∷ items) are all = let low = are.0.ahead.low in (
  λ t. all.0 (becomes_since es olds from live i.lbn i.count (omega (arith, le, low)) t),
  still_since covered es olds most from live (i.lbn + i.count) (omega (arith, le, low)) items are.1 all.1,
)

-- ---- Chunks that a manager covers

module _ {D : Type 0} (state : D → State) (m : Manager D) (ready : IsReady state m) (es : List Listed) (most : ℕ) where
  next_inside : (from : ℕ) (i : Item) → IsAhead (covered_in m) most from i → (b : ℕ) → is_within i.lbn i.count b ≡ true → covered_in m b ≡ true
  next_inside from i n b is = let w = inside_of i.lbn i.count b is in n.run b w.0 w.1

  next_fits : (from : ℕ) (i : Item) → IsAhead (covered_in m) most from i → i.lbn + i.count ≤ (state_of state m.home).size
  next_fits from i n = chunk_fits state m i.lbn i.count ready n.some (next_inside from i n)

  pub next_items : (from : ℕ) (items : List Item) → AreNext (covered_in m) es most from items → AreItemsOf most (state_of state m.home).size items
  next_items from [] are = tt
  next_items from (i ∷ items) are = (record { some = are.0.ahead.some; few = are.0.ahead.few; within = next_fits from i are.0.ahead }, next_items (i.lbn + i.count) items are.1)

  pub next_covered_in : (from : ℕ) (items : List Item) → AreNext (covered_in m) es most from items → AreCoveredIn m items
  next_covered_in from [] are = tt
  next_covered_in from (i ∷ items) are = (next_inside from i are.0.ahead, next_covered_in (i.lbn + i.count) items are.1)

  next_sizes : (from : ℕ) (items : List Item) → AreNext (covered_in m) es most from items → AllByRecursion (λ (i : Item). i.lbn + i.count ≤ 2 ^ 32) items
  next_sizes from [] are = tt
  next_sizes from (i ∷ items) are = ((let fits = next_fits from i are.0.ahead in let small = ready.ready.home_small.1 in omega (arith, fits, small)), next_sizes (i.lbn + i.count) items are.1)

  pub next_few : (from : ℕ) (items : List Item) → most ≤ 128 → AreNext (covered_in m) es most from items → count_of items ≤ 128 * length items
  next_few from [] small are = omega arith
  next_few from (i ∷ items) small are = let rest = next_few (i.lbn + i.count) items small are.1 in let e = count_more i items in let f = are.0.ahead.few in omega (arith, rest, e, f, small)

-- ---- The next chunk

module _ {D : Type 0} (tells : Bool) (state : D → State) (most : ℕ) (old now : Manager D) (copied from : ℕ) (settled : Bool) (can : CanClean old) (copies : List Write) (b : Between tells state most old now copied from settled copies)
    (ready : IsReady state now) (i : Item) (met : IsAhead (covered_in now) most from i) where
  same_cover : (x : ℕ) → covered_in now x ≡ covered_in old x
  same_cover x = b.done.copied.goes_on.covered x

  pub end_within : i.lbn + i.count ≤ 2 ^ 32
  end_within = let fits = chunk_fits state now i.lbn i.count ready met.some (λ x is. let w = inside_of i.lbn i.count x is in met.run x w.0 w.1) in let small = ready.ready.home_small.1 in omega (arith, fits, small)

  pub between_tidy : IsTidy (listed_in now.index.entries) i.lbn i.count → Between tells state most old now copied (i.lbn + i.count) settled copies
  between_tidy t = record {
    done = b.done;
    count = b.count;
    few = let f = b.few in omega (arith, f, met.low);
    within = end_within;
    upper = one_more_old (λ first n. (version : ℕ) × IsUppermost (listed_in now.index.entries) version first n) b.upper (t.version, upper_of_tidy (listed_in now.index.entries) i.lbn i.count t);
    tidy = λ yes_. one_more_old (λ first n. IsTidy (listed_in now.index.entries) first n) (b.tidy yes_) t;
    some = b.some;
    cut = λ is. cut_behind (covered_in old) most i.lbn i.count chunk is;
    behind = all_map (λ (w : Write). w.first < from) (λ (w : Write). w.first < i.lbn + i.count) (λ w lt. omega (arith, lt, met.low)) copies b.behind;
    stays = λ f c least le. b.stays f c least (omega (arith, le, met.low));
    live = λ v x le. b.live v x (omega (arith, le, met.low));
    quiet = b.quiet;
    listed = b.listed;
  }
    where
      ahead : IsAhead (covered_in old) most from i
      ahead = ahead_since (covered_in now) (covered_in old) most from i same_cover met

      chunk : IsChunk (covered_in old) most i.lbn i.count
      chunk = next_chunk (covered_in old) most from i ahead b.cut

      one_more_old : (P : ℕ → ℕ → Type 0) → ((x : ℕ) → x < from → covered_in old x ≡ true → (first : ℕ) × (c : ℕ) × IsChunk (covered_in old) most first c × (first ≤ x) × (x < first + c) × P first c) → P i.lbn i.count
          → (x : ℕ) → x < i.lbn + i.count → covered_in old x ≡ true → (first : ℕ) × (c : ℕ) × IsChunk (covered_in old) most first c × (first ≤ x) × (x < first + c) × P first c
      one_more_old P before now_ = one_more (covered_in old) most from i ahead P chunk before now_

  -- where nothing may go a chunk that becomes tidy is
  module _ (index : IsIndex now.index.entries) (none : NoneGoes (listed_in now.index.entries)) (t : BecomesTidy (listed_in now.index.entries) i.lbn i.count) where
    abbrev es : List Listed
    es = listed_in now.index.entries

    its : HasLive es t.0 i.lbn
    its = (t.1 i.lbn (omega arith)).1 (within_first i.lbn i.count met.some)

    abbrev e : Listed
    e = its.0

    e_top : IsTop es e i.lbn
    e_top = top_of es e i.lbn its.3

    -- what a record keeps is live
    live_kept : (d : Listed) → Contains es d → (x : ℕ) → covers d x ≡ true → HasLive es d.version x
    live_kept d has x is = (
      d,
      has,
      refl,
      live_of es d x (record {
        keeps = is;
        top = λ f there keeps less. clash (goes es d x) (goes_of_newer es d f x is there keeps less) (all_member (λ (y : Listed). (z : ℕ) → goes es y z ≡ false) es d none has x);
      }),
    )

    -- it keeps no block before the chunk
    none_before : (x : ℕ) → x < i.lbn → covers e x ≡ true → ⊥
    none_before x lt is = ⊎_elim before bare (cases_lt x from)
      where
        here : covered_in now x ≡ true
        here = Rattle.wol_promise.proofs.Covers.any_member (λ (d : Listed). covers d x) es e its.1 is

        bare : from ≤ x → ⊥
        bare ge = clash (covered_in now x) here (met.bare x ge lt)

        before : x < from → ⊥
        before less =
            let o = b.upper x less (sym (same_cover x) ∙ here) in let u = o.5.1 in let r = u.one.record_ in
            let inside = of_inside o.0 o.1 x o.3 o.4 in
            let upper : HasLive es r.version x = (
              r,
              u.one.listed,
              refl,
              live_of es r x (record {
                keeps = u.one.keeps x ∙ inside;
                top = λ f there keeps newer. clash (covers f x) keeps (all_member (λ (d : Listed). o.5.0 < d.version → KeepsNone d o.0 o.1) es f u.above there (let k = u.one.version_is in omega (arith, newer, k)) x inside);
              }),
            ) in
            let same : e ≡ r = same_listed now.index.entries index e r its.1 u.one.listed (one_live es e.version r.version x (live_kept e its.1 x is) upper) in
            let at = inside_of o.0 o.1 i.lbn (sym (u.one.keeps i.lbn) ∙ (λ j. covers (sym same j) i.lbn) ∙ e_top.keeps) in
            let chunk = next_chunk (covered_in old) most from i (ahead_since (covered_in now) (covered_in old) most from i same_cover met) b.cut in
            let first = (same_chunk (covered_in old) most o.0 o.1 i.lbn i.count i.lbn o.2 chunk at.0 at.1 (omega arith) (omega (arith, met.some))).0 in
            let le = o.3 in omega (arith, first, le, lt)

    just : (x : ℕ) → covers e x ≡ is_within i.lbn i.count x
    just x = both_ways (covers e x) (is_within i.lbn i.count x)
        (λ is. ⊎_elim
        (λ lt. absurd (none_before x lt is))
        (λ ge. (t.1 x ge).0 (subst (λ (v : ℕ). HasLive es v x) its.2 (live_kept e its.1 x is)))
        (cases_lt x i.lbn))
        (λ inside. let h = (t.1 x (inside_of i.lbn i.count x inside).0).1 inside in
        (λ j. covers (same_listed now.index.entries index e h.0 its.1 h.1 (its.2 ∙ sym h.2) j) x) ∙ (top_of es h.0 x h.3).keeps)

    tidy_now : IsTidy es i.lbn i.count
    tidy_now = tidy_of_upper es t.0 i.lbn i.count none (record {
      one = record { record_ = e; listed = its.1; version_is = its.2; keeps = just };
      above = each_is_member (λ (d : Listed). t.0 < d.version → KeepsNone d i.lbn i.count) es (λ d has less x inside. not_so (covers d x) (λ is.
          let h = (t.1 x (inside_of i.lbn i.count x inside).0).1 inside in let k = h.2 in (top_of es h.0 x h.3).top d has is (omega (arith, less, k))));
    })

  -- a chunk that isn't tidy doesn't become so, once there are copies
  pub first_still : IsIndex now.index.entries → (settled ≡ false → BecomesTidy (listed_in now.index.entries) i.lbn i.count → IsTidy (listed_in now.index.entries) i.lbn i.count) → (IsTidy (listed_in now.index.entries) i.lbn i.count → ⊥)
      → (copies ≡ [] → ⊥) → BecomesTidy (listed_in now.index.entries) i.lbn i.count → ⊥
  first_still index so untidy some t = at settled refl
    where
      at : (s : Bool) → settled ≡ s → ⊥
      at false is = untidy (so is t)
      at true is = untidy (tidy_now index (b.quiet is some) t)

  module _ (untidy : IsTidy (listed_in now.index.entries) i.lbn i.count → ⊥) (rest : List Item) (more : AreNext (covered_in now) (listed_in now.index.entries) most (i.lbn + i.count) rest) (new : Manager D) where
    abbrev pub items : List Item
    items = i ∷ rest

    pub are_next : AreNext (covered_in now) (listed_in now.index.entries) most from items
    are_next = (record { ahead = met; untidy = untidy }, more)

    -- among the records at the beginning too
    were_next : AreNext (covered_in old) (listed_in old.index.entries) most from items
    were_next = next_since (covered_in now) (covered_in old) (listed_in now.index.entries) (listed_in old.index.entries) most from same_cover b.stays from (omega arith) items are_next

    now_upto : Upto (covered_in old) (listed_in old.index.entries) most old.next from (listed_in now.index.entries) copies
    now_upto = record { chunks = b.done.chunks; few = (let c = b.count in let f = b.few in omega (arith, c, f)); within = b.within; upper = b.upper; cut = b.cut; behind = b.behind; stays = b.stays; live = b.live; listed = b.listed }

    now_below : AllByRecursion (λ (e : Listed). e.version < now.next) (listed_in now.index.entries)
    now_below = all_mapped (λ (e : Listed). e.version < now.next) (λ (e : Indexed). e.listed) now.index.entries ready.below

    -- none of them becomes tidy of the records at the beginning, if none does of those that are there
    were_still : AreStill (listed_in now.index.entries) copies items → AreStill (listed_in old.index.entries) copies items
    were_still are = (
      λ some t. are.0 some (becomes_since (listed_in now.index.entries) (listed_in old.index.entries) from b.live i.lbn i.count met.low t),
      still_since (covered_in now) (listed_in now.index.entries) (listed_in old.index.entries) most from b.live (i.lbn + i.count) (omega (arith, met.low)) rest more are.1,
    )

    next_is : now.next ≡ old.next + length copies
    next_is = b.done.copied.next

    -- after copies of some first ones
    upto_then : (still : AreStill (listed_in now.index.entries) copies items) (k lane : ℕ) (l : Look) → l.listed ≡ listed_in now.index.entries → l.next ≡ now.next → (ws : List Write) → AreCopiesAt now.next (take k items) ws
        → Upto (covered_in old) (listed_in old.index.entries) most old.next (end_of from (take k items)) (placed_all (Log lane) l ws).listed (copies ++ ws)
    upto_then still k lane l listed next ws at = upto_all (covered_in old) (listed_in old.index.entries) most old.next lane (take k items) ws from l copies
        (subst (λ (es : List Listed). Upto (covered_in old) (listed_in old.index.entries) most old.next from es copies) (sym listed) now_upto)
        (subst NoneHomed (sym listed) b.done.copied.goes_on.can.unhomed)
        (subst (λ (n : ℕ). AllByRecursion (λ (e : Listed). e.version < n) l.listed) (sym next) (subst (AllByRecursion (λ (e : Listed). e.version < now.next)) (sym listed) now_below))
        (next ∙ next_is)
        (next_front (covered_in old) (listed_in old.index.entries) most k from items were_next)
        (still_front (listed_in old.index.entries) copies k items (were_still still))
        (next_sizes state now ready (listed_in now.index.entries) most from (take k items) (next_front (covered_in now) (listed_in now.index.entries) most k from items are_next))
        (subst (λ (n : ℕ). AreCopiesAt n (take k items) ws) next_is at)

    abbrev left_untidy : settled ≡ true → new.index.entries ≡ now.index.entries → IsLeftUntidy (covered_in old) most (listed_in new.index.entries) copies
    left_untidy yes_ same = record {
      first = i.lbn;
      count = i.count;
      chunk = next_chunk (covered_in old) most from i were_next.0.ahead b.cut;
      before = subst (λ (es : List Indexed). AreTidyBelow (covered_in old) most i.lbn (listed_in es)) (sym same) (tidy_before yes_);
      behind = behind_later;
      untidy = λ t. untidy (subst (λ (es : List Indexed). IsTidy (listed_in es) i.lbn i.count) same t);
    }
      where
        tidy_before : settled ≡ true → AreTidyBelow (covered_in old) most i.lbn (listed_in now.index.entries)
        tidy_before yes_ x lt is = ⊎_elim (λ l. b.tidy yes_ x l is) (λ g. absurd (clash (covered_in old x) is (sym (same_cover x) ∙ met.bare x g lt))) (cases_lt x from)

        behind_later : AllByRecursion (λ (w : Write). w.first < i.lbn) copies
        behind_later = all_map (λ (w : Write). w.first < from) (λ (w : Write). w.first < i.lbn) (λ w lt. omega (arith, lt, met.low)) copies b.behind

    settled_since : settled ≡ true → new.index.entries ≡ now.index.entries → HasSettled (listed_in new.index.entries) copies
    settled_since yes_ same = subst (λ (es : List Indexed). HasSettled (listed_in es) copies) (sym same) (has_settled (listed_in now.index.entries) copies b.listed (b.quiet yes_))

    pub between_copied : AreStill (listed_in now.index.entries) copies items → (k : ℕ) → 1 ≤ k → (t : HasRewritten tells state (take k items) now new) → Between tells state most old new (copied + count_of (take k items)) (end_of from (take k items)) false (copies ++ t.writes)
    between_copied still k one t = record {
      done = record {
        chunks = u.chunks;
        copied = copied_then tells state old now new copies t.writes can b.done.copied t.copied;
        untouched = λ none. absurd (some_more k one t.writes t.are none);
      };
      count = same_count;
      few = let f = u.few in let c = same_count in omega (arith, f, c);
      within = u.within;
      upper = subst (AreUpperBelow (covered_in old) most (end_of from (take k items))) (sym t.listed_is) u.upper;
      tidy = λ wrong. absurd (let no_ : false ≡ true = wrong in cc);
      some = λ yes_ none. some_more k one t.writes t.are none;
      cut = u.cut;
      behind = u.behind;
      stays = λ f c least le x. subst (λ (es : List Listed). IsTidy es f c) (sym t.listed_is) (u.stays f c least le x);
      live = λ v x le. subst (λ (es : List Listed). HasLive (listed_in old.index.entries) v x ↔ HasLive es v x) (sym t.listed_is) (u.live v x le);
      quiet = λ wrong. absurd (let no_ : false ≡ true = wrong in cc);
      listed = subst (λ (es : List Listed). AllByRecursion (IsUpperCopy es) (copies ++ t.writes)) (sym t.listed_is) u.listed;
    }
      where
        u : Upto (covered_in old) (listed_in old.index.entries) most old.next (end_of from (take k items)) (placed_all (Log t.lane) t.look t.writes).listed (copies ++ t.writes)
        u = upto_then still k t.lane t.look t.listed_was t.next_was t.writes t.are

        same_count : copied + count_of (take k items) ≡ copied_blocks (copies ++ t.writes)
        same_count = let a = sum_by-append (λ (v : Write). length v.blocks) copies t.writes in let c = copied_count now.next (take k items) t.writes t.are in let d = b.count in omega (arith, a, c, d)

        some_more : (k : ℕ) → 1 ≤ k → (ws : List Write) → AreCopiesAt now.next (take k items) ws → copies ++ ws ≡ [] → ⊥
        some_more zero one ws at none = absurd (omega (arith, one))
        some_more (suc k) one [] at none = absurd at
        some_more (suc k) one (w ∷ ws) at none = let l = ap length none in let e = length-append copies (w ∷ ws) in omega (arith, l, e)

    ends_full : settled ≡ true → IsRefused tells state i.count now new → CleansBy tells state most old new copies (Ok (copied, true))
    ends_full yes_ r = (
      record { chunks = b.done.chunks; copied = subst (HasCopied tells state old new) (append-nil copies) (copied_then tells state old now new copies [] can b.done.copied r.copied); untouched = λ none. r.entries ∙ b.done.untouched none },
      b.count,
      λ wrong. absurd (let no_ : true ≡ false = wrong in cc),
      λ full. (let e = r.copied.next in let n = r.next in omega (arith, e, n), empty_since old now new b.done.copied.goes_on r.empty, left_untidy yes_ r.entries, r.room),
      settled_since yes_ r.entries,
    )

    -- none was written, and all was given up before, or a call of a disk failed
    pub ends_by : AreStill (listed_in now.index.entries) copies items → (answer : Result ℕ CleanFault) → written_of answer ≡ 0 → (is_broken answer ≡ false → settled ≡ true) → (f : Rewrites tells state items now new answer)
        → CleansBy tells state most old new (copies ++ rewritten tells state items now new answer f) (ended copied answer)
    ends_by still (Ok zero) none so f = subst (λ (ws : List Write). CleansBy tells state most old new ws (Ok (copied, true))) (sym (append-nil copies)) (ends_full (so refl) f)
    ends_by still (Ok (suc n)) none so f = absurd (let wrong : suc n ≡ 0 = none in omega (arith, wrong))
    ends_by still (Err (DiskFault p)) none so f = (
      (upto_then still f.tried 0 (look_of_manager now) refl refl f.copies f.are).chunks,
      broken_then tells state old now new p copies f.copies can b.done.copied f.broken,
    )
    ends_by still (Err VersionsSpent) none so f = subst (λ (ws : List Write). EndsBy tells state most old new ws VersionsSpent) (sym (append-nil copies)) (
      record { chunks = b.done.chunks; copied = subst (HasCopied tells state old new) (append-nil copies) (copied_then tells state old now new copies [] can b.done.copied f.0); untouched = λ none. f.2 ∙ b.done.untouched none },
      f.1,
      left_untidy (so refl) f.2,
      settled_since (so refl) f.2,
    )
    ends_by still (Err NoMemory) none so f = let left = left_untidy (so refl) f.1 in subst (λ (ws : List Write). EndsBy tells state most old new ws NoMemory) (sym (append-nil copies)) (
      record { chunks = b.done.chunks; copied = subst (HasCopied tells state old new) (append-nil copies) (copied_then tells state old now new copies [] can b.done.copied f.0); untouched = λ none. f.1 ∙ b.done.untouched none },
      (i.lbn, left.before, left.behind),
      settled_since (so refl) f.1,
    )

-- all are tidy where no block is covered from here on
pub ends_clean : {D : Type 0} (tells : Bool) (state : D → State) (most : ℕ) (old now : Manager D) (copied from : ℕ) (copies : List Write) → (b : Between tells state most old now copied from true copies) → IsReady state now → IsIndex now.index.entries
    → ((x : ℕ) → from ≤ x → x < 2 ^ 32 → covered_in now x ≡ false) → CleansBy tells state most old now copies (Ok (copied, false))
ends_clean tells state most old now copied from copies b ready index bare = (
  b.done,
  b.count,
  λ is. record { each = each; only = only },
  λ wrong. absurd (let no_ : false ≡ true = wrong in cc),
  has_settled (listed_in now.index.entries) copies b.listed (b.quiet refl),
)
  where
    same_cover : (x : ℕ) → covered_in now x ≡ covered_in old x
    same_cover x = b.done.copied.goes_on.covered x

    at : (x : ℕ) → covered_in old x ≡ true → (first : ℕ) × (n : ℕ) × IsChunk (covered_in old) most first n × (first ≤ x) × (x < first + n) × IsTidy (listed_in now.index.entries) first n
    at x is = ⊎_elim
        (λ lt. b.tidy refl x lt is)
        (λ ge. absurd (clash (covered_in now x) (same_cover x ∙ is) (bare x ge (let lt = covered_within state now ready x (same_cover x ∙ is) in let small = ready.ready.home_small.1 in omega (arith, lt, small)))))
        (cases_lt x from)

    each : (first n : ℕ) → IsChunk (covered_in old) most first n → IsTidy (listed_in now.index.entries) first n
    each first n c =
        let s = c.some in let e = c.cut in
        let o = at first (c.run first (omega (arith, e)) (omega (arith, s))) in
        let same = same_chunk (covered_in old) most o.0 o.1 first n first o.2 c o.3 o.4 (omega arith) (omega (arith, s)) in
        subst (λ (f : ℕ). IsTidy (listed_in now.index.entries) f n) same.0 (subst (IsTidy (listed_in now.index.entries) o.0) same.1 o.5)

    one : (e : Indexed) → Contains now.index.entries e → IsEntry (listed_in now.index.entries) e.listed → (first : ℕ) × (n : ℕ) × IsChunk (covered_in old) most first n × KeepsJust e.listed first n
    one e has entry =
        let f = any_found (cover_of e.listed).covers (block_numbers e.listed) entry.keeps in
        let x = f.item in
        let covered : covered_in now x ≡ true = Rattle.wol_promise.proofs.Covers.any_member (λ (d : Listed). covers d x) (listed_in now.index.entries) e.listed (Rattle.wol_promise.proofs.Lists.member_map (λ (d : Indexed). d.listed) now.index.entries e has) f.passes in
        let o = at x (sym (same_cover x) ∙ covered) in
        let t = o.5 in
        let m = member_unmap (λ (d : Indexed). d.listed) now.index.entries t.one.record_ t.one.listed in
        let v : e.listed.version ≡ t.version = ⊎_elim (λ same. same) (λ other. absurd (clash (covers e.listed x) f.passes
        (all_member (λ (d : Listed). (d.version ≡ t.version → ⊥) → KeepsNone d o.0 o.1) (listed_in now.index.entries) e.listed t.alone (Rattle.wol_promise.proofs.Lists.member_map (λ (d : Indexed). d.listed) now.index.entries e has) other x (of_inside o.0 o.1 x o.3 o.4))))
        (Rattle.std.proofs.lemmas.Bool.cases_eq e.listed.version t.version) in
        let same : m.0 ≡ e = same_version now.index.entries m.0 e index.rising m.1 has (ap (λ (d : Listed). d.version) m.2 ∙ t.one.version_is ∙ sym v) in
        (o.0, o.1, o.2, λ y. (λ i. covers (sym same i).listed y) ∙ (λ i. covers (m.2 i) y) ∙ t.one.keeps y)

    only : AllByRecursion (λ (e : Listed). (first : ℕ) × (n : ℕ) × IsChunk (covered_in old) most first n × KeepsJust e first n) (listed_in now.index.entries)
    only = all_mapped (λ (e : Listed). (first : ℕ) × (n : ℕ) × IsChunk (covered_in old) most first n × KeepsJust e first n) (λ (e : Indexed). e.listed) now.index.entries
        (Rattle.log_cleaner.proofs.Lists.each_is_member (λ (e : Indexed). (first : ℕ) × (n : ℕ) × IsChunk (covered_in old) most first n × KeepsJust e.listed first n) now.index.entries (λ e has. one e has (all_member (λ (d : Indexed). IsEntry (listed_in now.index.entries) d.listed) now.index.entries e index.each has)))

-- ---- The whole

module _ {D : Type 0} (tells : Bool) (state : D → State) (most : ℕ) (old new : Manager D) (can : CanClean old) (copies : List Write) where
  -- the whole, by its chunks and by what it tells
  whole : (result : Result Cleaned CleanFault) → AreChunks (covered_in old) (listed_in old.index.entries) most old.next copies → AreCopies tells state old new copies → TellsCleaned tells state most old new copies result
      → (has : HasCleaned tells state most old new result) × (copies ≡ has.copies)
  whole result made copied told = (
    record { copies = copies; chunks = made.chunks; untidy = made.untidy; still_untidy = made.still_untidy; in_order = made.in_order; numbered = made.numbered; copied = copied; tells_ = told },
    refl,
  )

  pub cleaned_ok : (copied : ℕ) (full : Bool) (c : Cleaned) → c.before ≡ length old.index.entries → c.after ≡ length new.index.entries → c.copied ≡ copied → c.full ≡ full → CleansBy tells state most old new copies (Ok (copied, full))
      → (has : HasCleaned tells state most old new (Ok c)) × (copies ≡ has.copies)
  cleaned_ok copied full c before after same_copied same_full all = let d = all.0 in
      whole (Ok c) d.chunks d.copied.copied (
        d.copied.goes_on,
        leaves_copies tells state old new copies can.up d.copied.keeps,
        before,
        after,
        same_copied ∙ all.1,
        λ is. all.2 (sym same_full ∙ is),
        λ is. all.3 (sym same_full ∙ is),
        d.untouched,
        d.copied.calm,
        all.4,
      )

  pub cleaned_err : (fault : CleanFault) → CleansBy tells state most old new copies (Err fault) → (has : HasCleaned tells state most old new (Err fault)) × (copies ≡ has.copies)
  cleaned_err (DiskFault p) all = let d = all.1 in whole (Err (DiskFault p)) all.0 d.copied (d.down, d.rose, d.leaves)
  cleaned_err VersionsSpent all = let d = all.0 in
      whole (Err VersionsSpent) d.chunks d.copied.copied (d.copied.goes_on, leaves_copies tells state old new copies can.up d.copied.keeps, all.1, sym d.copied.next ∙ all.1, all.2, d.untouched, d.copied.calm, all.3)
  cleaned_err NoMemory all = let d = all.0 in whole (Err NoMemory) d.chunks d.copied.copied (d.copied.goes_on, leaves_copies tells state old new copies can.up d.copied.keeps, d.untouched, all.1, d.copied.calm, all.2)

pub cleaned_none : {D : Type 0} (tells : Bool) (state : D → State) (most : ℕ) (m : Manager D) → CanClean m → (has : HasCleaned tells state most m m (Err NoMemory)) × ([] ≡ has.copies)
cleaned_none tells state most m can = cleaned_err tells state most m m can [] NoMemory
    (record { chunks = chunks_none (covered_in m) (listed_in m.index.entries) most m.next; copied = copied_none tells state m can; untouched = λ none. refl }, (0, (λ x lt is. absurd (omega (arith, lt))), tt), has_settled (listed_in m.index.entries) [] tt (λ some. absurd (some refl)))
