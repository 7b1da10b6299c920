-- Errands with their ends, one more or one less of each, and the seats of a crew.
use Rattle.std.proofs.Common.{◌≡◌, ◌<◌, ◌+◌, ℕ, zero, suc, List, [], ◌∷◌, ◌++◌, length, get_or, inl, inr, sym, ap, subst, ◌∙◌, arith}
use Rattle.std.specs.Prelude.{vec_len}
use Rattle.std.specs.declared.alloc.Global.{Global}
use Rattle.std.specs.declared.vec.Vec.{Vec}
use Rattle.std.proofs.lemmas.Bool.{cases_lt}
use Rattle.std.proofs.Math.Seq.{get_or-append_seam}
use Rattle.std.proofs.lemmas.List.{get_or_append_left, get_or_default, length-append}
use Rattle.errands.specs.Ends.{IsWaiting}
use Rattle.errands.specs.declared.ends.Errands.{Errands}
use Rattle.errands.specs.declared.ends.Worker.{Worker}
use Rattle.request_workers.specs.Crews.{AreIdleSeats, IsPartCrew, IsIdleSeat, IsPool, IsSameCrew}
use Rattle.request_workers.specs.declared.crew.Crew.{Crew}
use Rattle.request_workers.specs.declared.crew.Seat.{Seat}
use Rattle.request_workers.specs.declared.job.Job.{Job}
use Rattle.request_workers.specs.declared.pool.Pool.{Pool}

-- ---- Pairs

-- each element of the second list is so with that of the first at its place
module _ {A B : Type 0} (P : A → B → Type 0) where
  abbrev pub ArePaired : List A → List B → Type 0
  ArePaired xs ys = (k : ℕ) (a : A) (b : B) → k < length ys → P (get_or xs k a) (get_or ys k b)

  pub pair_more : (xs : List A) (ys : List B) (x : A) (y : B) → length ys ≡ length xs → ArePaired xs ys → P x y → ArePaired (xs ++ x ∷ []) (ys ++ y ∷ [])
  pair_more [] [] x y len h p zero d e l = p
  pair_more [] [] x y len h p (suc k) d e l = absurd (omega arith)
  pair_more [] (b ∷ ys) x y len h p k d e l = absurd (omega arith)
  pair_more (a ∷ xs) [] x y len h p k d e l = absurd (omega arith)
  pair_more (a ∷ xs) (b ∷ ys) x y len h p zero d e l = h zero d e (omega arith)
  pair_more (a ∷ xs) (b ∷ ys) x y len h p (suc k) d e l = pair_more xs ys x y (omega arith) (λ i c f lt. h (suc i) c f (omega arith)) p k d e (omega arith)

  pub pair_last : (xs : List A) (ys : List B) (y : B) (a : A) → ArePaired xs (ys ++ y ∷ []) → P (get_or xs (length ys) a) y
  pair_last xs ys y a h =
      let long = length-append ys (y ∷ []) in
      subst (P (get_or xs (length ys) a)) (get_or-append_seam ys y [] y) (h (length ys) a y (omega (arith, long)))

  pub pair_less : (xs : List A) (ys : List B) (y : B) → ArePaired xs (ys ++ y ∷ []) → ArePaired xs ys
  pair_less xs ys y h k a b lt =
      let long = length-append ys (y ∷ []) in
      subst (P (get_or xs k a)) (get_or_append_left ys (y ∷ []) b k lt) (h k a b (omega (arith, lt, long)))

  pub pair_push : (xs : List A) (ys : List B) (y : B) → ((a : A) → P (get_or xs (length ys) a) y) → ArePaired xs ys → ArePaired xs (ys ++ y ∷ [])
  pair_push xs ys y here before k a b lt = elim (cases_lt k (length ys)) [
    | inl less ↦ subst (P (get_or xs k a)) (sym (get_or_append_left ys (y ∷ []) b k less)) (before k a b less)
    | inr more ↦
        let long = length-append ys (y ∷ []) in
        let last : k ≡ length ys = omega (arith, lt, more, long) in
        subst (λ (i : ℕ). P (get_or xs i a) (get_or (ys ++ y ∷ []) i b)) (sym last) (subst (P (get_or xs (length ys) a)) (sym (get_or-append_seam ys y [] b)) (here a))
  ]

-- ---- A pool

module _ {D : Type 0} (p q : Pool D) where
  pub pool_same : q.errands.items ≡ p.errands.items → q.seats.items ≡ p.seats.items → q.workers.items ≡ p.workers.items → IsPool p → IsPool q
  pool_same errands seats workers is = record {
    seats_ = ap length seats ∙ (is.seats_ ∙ ap length (sym errands));
    workers_ = ap length workers ∙ (is.workers_ ∙ ap length (sym errands));
    home = subst (λ (es : List (Errands (Job D))). AreIdleSeats es q.seats.items) (sym errands) (subst (λ (ss : List (Seat D)). AreIdleSeats p.errands.items ss) (sym seats) is.home);
    waiting = subst (λ (es : List (Errands (Job D))). ArePaired IsWaiting es q.workers.items) (sym errands) (subst (λ (ws : List (Worker (Job D))). ArePaired IsWaiting p.errands.items ws) (sym workers) is.waiting);
  }

  pub pool_more : (e : Errands (Job D)) (s : Seat D) (w : Worker (Job D)) → q.errands.items ≡ p.errands.items ++ e ∷ [] → q.seats.items ≡ p.seats.items ++ s ∷ [] → q.workers.items ≡ p.workers.items ++ w ∷ []
      → IsIdleSeat e s → IsWaiting e w → IsPool p → IsPool q
  pool_more e s w errands seats workers home waiting is =
      let el = ap length errands ∙ length-append p.errands.items (e ∷ []) in
      let sl = ap length seats ∙ length-append p.seats.items (s ∷ []) in
      let wl = ap length workers ∙ length-append p.workers.items (w ∷ []) in
      let a = is.seats_ in let b = is.workers_ in record {
        seats_ = omega (arith, el, sl, a);
        workers_ = omega (arith, el, wl, b);
        home = subst (λ (es : List (Errands (Job D))). AreIdleSeats es q.seats.items) (sym errands)
            (subst (λ (ss : List (Seat D)). AreIdleSeats (p.errands.items ++ e ∷ []) ss) (sym seats) (pair_more IsIdleSeat p.errands.items p.seats.items e s is.seats_ is.home home));
        waiting = subst (λ (es : List (Errands (Job D))). ArePaired IsWaiting es q.workers.items) (sym errands)
            (subst (λ (ws : List (Worker (Job D))). ArePaired IsWaiting (p.errands.items ++ e ∷ []) ws) (sym workers) (pair_more IsWaiting p.errands.items p.workers.items e w is.workers_ is.waiting waiting));
      }

-- ---- A crew

module _ {D G : Type 0} (c : Crew D G) where
  -- without its last seat
  pub crew_less : (rest : Vec (Seat D) Global) (s : Seat D) → c.seats.items ≡ rest.items ++ s ∷ [] → IsPartCrew c → IsPartCrew (record c { seats = rest })
  crew_less rest s parts is =
      let long = ap length parts ∙ length-append rest.items (s ∷ []) in let count = is.count in record {
        some = is.some;
        few = is.few;
        count = omega (arith, long, count);
        home = pair_less IsIdleSeat c.errands.now rest.items s (subst (λ (ss : List (Seat D)). AreIdleSeats c.errands.now ss) parts is.home);
      }

  -- its last seat
  pub last_home : (rest : List (Seat D)) (s : Seat D) (e : Errands (Job D)) → c.seats.items ≡ rest ++ s ∷ [] → IsPartCrew c → IsIdleSeat (get_or c.errands.now (length rest) e) s
  last_home rest s e parts is = pair_last IsIdleSeat c.errands.now rest s e (subst (λ (ss : List (Seat D)). AreIdleSeats c.errands.now ss) parts is.home)

  pub last_within : (rest : List (Seat D)) (s : Seat D) → c.seats.items ≡ rest ++ s ∷ [] → IsPartCrew c → length rest < length c.errands.now
  last_within rest s parts is = let long = ap length parts ∙ length-append rest (s ∷ []) in let count = is.count in omega (arith, long, count)

  -- .. and the errands at its place
  pub last_at : (rest : Vec (Seat D) Global) (s : Seat D) (e : Errands (Job D)) (i : ℕ) → c.seats.items ≡ rest.items ++ s ∷ [] → IsPartCrew c → i ≡ vec_len rest → e ≡ get_or c.errands.now i e → IsIdleSeat e s
  last_at rest s e i parts is place there =
      let n : i ≡ length rest.items = place ∙ rest.ok.0 in
      subst (λ (x : Errands (Job D)). IsIdleSeat x s) (sym there) (subst (λ (k : ℕ). IsIdleSeat (get_or c.errands.now k e) s) (sym n) (last_home rest.items s e parts is))

  -- the seat comes back to its place
  module _ (rest : Vec (Seat D) Global) (s : Seat D) (d : Crew D G) (more : Vec (Seat D) Global) (t : Seat D) (e : Errands (Job D)) (i : ℕ) where
    pub crew_back : c.seats.items ≡ rest.items ++ s ∷ [] → IsPartCrew c → IsSameCrew (record c { seats = rest }) d → more.items ≡ d.seats.items ++ t ∷ [] → i ≡ vec_len rest → e ≡ get_or c.errands.now i e → IsIdleSeat e t → IsPartCrew d
        → IsPartCrew (record d { seats = more })
    crew_back parts is same joined place there home on =
        let within = last_within rest.items s parts is in
        let n : i ≡ length rest.items = place ∙ rest.ok.0 in
        let kept = same.seats_are in
        let errands : d.errands.now ≡ c.errands.now = ap (λ r. r.now) same.errands_are in
        let long = ap length joined ∙ length-append d.seats.items (t ∷ []) in
        let count = ap length errands in
        let here : (x : Errands (Job D)) → IsIdleSeat (get_or d.errands.now (length d.seats.items) x) t = (λ x.
        let is_e : get_or c.errands.now i x ≡ e = get_or_default c.errands.now i x e (omega (arith, within, n)) ∙ sym there in
        let at : get_or d.errands.now (length d.seats.items) x ≡ e = ap (λ es. get_or es (length d.seats.items) x) errands ∙ (ap (λ (k : ℕ). get_or c.errands.now k x) (kept ∙ sym n) ∙ is_e) in
        subst (λ (y : Errands (Job D)). IsIdleSeat y t) (sym at) home) in
        record {
          some = on.some;
          few = on.few;
          count = omega (arith, long, kept, within, count);
          home = subst (λ (ss : List (Seat D)). AreIdleSeats d.errands.now ss) (sym joined) (pair_push IsIdleSeat d.errands.now d.seats.items t here on.home);
        }
