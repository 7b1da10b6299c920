-- The blocks of requests in a row are their payloads.
use Rattle.std.proofs.Common.{◌≡◌, ◌<◌, ◌≤◌, ◌+◌, ◌-◌, ℕ, List, [], ◌∷◌, ◌++◌, map, length, take, drop, get_or, None, refl, sym, ap, ◌∙◌, arith}
use Rattle.std.specs.List.{AllByRecursion, flat_map, range_with_len, sum_by}
use Rattle.std.proofs.lemmas.List.{append-nil, map-append, take-take, drop-take, take_more}
use Rattle.std.proofs.Math.Seq.{take-append_seam, drop-append_seam}
use Rattle.std.proofs.lemmas.List.Concat.{flat_map-append}
use Rattle.std.proofs.lemmas.Slice.{take-put_mid}
use borrow.Rule.Slice.PartMut.{put_mid}
use Rattle.std.proofs.lemmas.List.FromFn.{length-map-range_with_len}
use Rattle.std.proofs.lemmas.List.Sums.{sum_by-cons, sum_by_push}
use Rattle.wol_disk.specs.Disk.{Block}
use Rattle.wol_model.specs.Trace.{payload, payload_block}
use Rattle.log_segment.specs.Records.{count_of}
use Rattle.log_segment.specs.declared.item.Item.{Item}
use Rattle.manager.specs.Groups.{writes_to_home}
use Rattle.trace_windows.specs.Requests.{asked}
use Rattle.trace_windows.specs.declared.request.Request.{Request}
use Rattle.manager.specs.declared.base.ManagerBase.{ManagerBase}
use Rattle.request_turns.specs.Groups.{item_of, blocks_of}
use Rattle.request_turns.specs.Requests.{IsWithin}

-- as many blocks as the requests have
abbrev pub blocks_in : List Request → ℕ
blocks_in rs = sum_by (λ (r : Request). r.count) rs

pub counted_all : (rs : List Request) → count_of (map item_of rs) ≡ blocks_in rs
counted_all [] = refl
counted_all (r ∷ rs) = sum_by-cons (λ (i : Item). i.count) (item_of r) (map item_of rs) ∙ (λ t. r.count + counted_all rs t) ∙ sym (sum_by-cons (λ (q : Request). q.count) r rs)

payload_long : (r : Request) → length (blocks_of r) ≡ r.count
payload_long r = length-map-range_with_len (payload_block r.line) r.lbn r.count

-- what is in front of blocks, and what is behind it
front_is : (x : List Block) (y out : List Block) (m : ℕ) → take (length x + m) out ≡ x ++ y → take (length x) out ≡ x
front_is x y out m is = sym (take-take (length x) (length x + m) out (omega arith)) ∙ ap (take (length x)) is ∙ take-append_seam x y

behind_is : (x : List Block) (y out : List Block) (m : ℕ) → take (length x + m) out ≡ x ++ y → take m (drop (length x) out) ≡ y
behind_is x y out m is = sym (drop-take (length x) m out) ∙ ap (drop (length x)) is ∙ drop-append_seam x y

pub requests_write : (rs : List Request) (out : List Block) → take (blocks_in rs) out ≡ flat_map blocks_of rs → writes_to_home (map item_of rs) out ≡ map (λ (r : Request). payload (asked r)) rs
requests_write [] out is = refl
requests_write (r ∷ rs) out is =
    let counted : blocks_in (r ∷ rs) ≡ r.count + blocks_in rs = sum_by-cons (λ (q : Request). q.count) r rs in
    let all : take (length (blocks_of r) + blocks_in rs) out ≡ blocks_of r ++ flat_map blocks_of rs = (λ t. take (payload_long r t + blocks_in rs) out) ∙ (λ t. take (sym counted t) out) ∙ is in
    let first : take r.count out ≡ blocks_of r = (λ t. take (sym (payload_long r) t) out) ∙ front_is (blocks_of r) (flat_map blocks_of rs) out (blocks_in rs) all in
    let rest : take (blocks_in rs) (drop r.count out) ≡ flat_map blocks_of rs = (λ t. take (blocks_in rs) (drop (sym (payload_long r) t) out)) ∙ behind_is (blocks_of r) (flat_map blocks_of rs) out (blocks_in rs) all in
    λ t. record { first = r.lbn; blocks = first t; version = None } ∷ requests_write rs (drop r.count out) rest t

-- ---- One request more

map_push : (rs : List Request) (r : Request) → map item_of (rs ++ r ∷ []) ≡ map item_of rs ++ item_of r ∷ []
map_push rs r = map-append item_of rs (r ∷ [])

pub listed_more : (rs : List Request) (items : List Item) (n : ℕ) (d : Request) → n < length rs → items ≡ map item_of (take n rs)
    → items ++ item_of (get_or rs n d) ∷ [] ≡ map item_of (take (n + 1) rs)
listed_more rs items n d lt is = ap (λ (is : List Item). is ++ item_of (get_or rs n d) ∷ []) is
    ∙ sym (map_push (take n rs) (get_or rs n d)) ∙ ap (map item_of) (sym (take_more rs n d lt))

pub counted_more : (rs : List Request) (n : ℕ) (d : Request) → n < length rs → blocks_in (take (n + 1) rs) ≡ blocks_in (take n rs) + (get_or rs n d).count
counted_more rs n d lt = ap blocks_in (take_more rs n d lt) ∙ sum_by_push (λ (r : Request). r.count) (take n rs) (get_or rs n d)

-- with the blocks of one request more behind those that are filled
pub filled_more : (rs : List Request) (n : ℕ) (d : Request) (at end k : ℕ) (out new : List Block) → n < length rs → take at out ≡ flat_map blocks_of (take n rs) → new ≡ map (payload_block (get_or rs n d).line) (range_with_len (get_or rs n d).lbn k)
    → length new ≡ (get_or rs n d).count → end ≡ at + (get_or rs n d).count → at ≤ length out → take end (put_mid at (end - at) out new) ≡ flat_map blocks_of (take (n + 1) rs)
filled_more rs n d at end k out new lt filled is long ends le =
    let r : Request = get_or rs n d in
    let counted : k ≡ r.count = sym (length-map-range_with_len (payload_block r.line) r.lbn k) ∙ sym (ap length is) ∙ long in
    let whole : new ≡ blocks_of r = is ∙ ap (λ (m : ℕ). map (payload_block r.line) (range_with_len r.lbn m)) counted in
    take-put_mid at (end - at) out new end (omega (arith, long, ends)) le
    ∙ (λ t. filled t ++ whole t)
    ∙ ap (λ (xs : List Block). flat_map blocks_of (take n rs) ++ xs) (sym (append-nil (blocks_of r)))
    ∙ sym (flat_map-append blocks_of (take n rs) (r ∷ [])) ∙ ap (flat_map blocks_of) (sym (take_more rs n d lt))

-- requests with at least one block each are no more than their blocks
pub few_requests : (rs : List Request) (b : ManagerBase) → AllByRecursion (IsWithin b) rs → length rs ≤ blocks_in rs
few_requests [] b all = omega arith
few_requests (r ∷ rs) b all =
    let sum : sum_by (λ (q : Request). q.count) (r ∷ rs) ≡ r.count + sum_by (λ (q : Request). q.count) rs = sum_by-cons (λ (q : Request). q.count) r rs in
    let le = few_requests rs b all.1 in let some = all.0.some in omega (arith, sum, le, some)
