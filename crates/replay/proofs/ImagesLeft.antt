-- What images a run leaves: each volume recovers to what its answered requests wrote, or to a cut of the next one.
use Rattle.replay.proofs.Basics.{◌≡◌, ◌<◌, ◌⊎◌, ◌++◌, ℕ, zero, suc, Bool, true, false, cond, List, [], ◌∷◌, length, map, take, drop, refl}
use Rattle.replay.proofs.Basics.{sym, ap, subst, ◌∙◌, Option, None, Some, is_some, inl, inr, append-nil, arith, Contains, IsTrue, slice_get}
use Rattle.replay.proofs.Basics.{unwrap_or, AllByRecursion, cons_option, option_map_or, cases_lt, eq-eqb, same_Some}
use Rattle.replay.proofs.Terms.{PartName, Block, BayState, Told, unversioned, Write, after, IsCut, flight_of, whole, writes, in_flight}
use Rattle.replay.proofs.Terms.{Images, all_segments, recovered_from, payload, payloads, write_to, Answered, answered_in, of_volume}
use Rattle.replay.proofs.Terms.{entries_of, last_look, KeepsSound, answered_count, answers_of, requests_in, IsOneAction, AreAnsweredBy}
use Rattle.replay.proofs.Terms.{cuts_are_plain, all_of, volume_requests, Config, notes_of, Station, AreLeft, images_read, shapes_of}
use Rattle.replay.proofs.Terms.{AreListedOf, HasFaultyPart, IsClosedVolume, IsOnLogger, RecoversTo, recovered_out, segments_out}
use Rattle.replay.proofs.Terms.{base_of_station, IsImageOut, ImageRest, AreHistories, BeginAsRead, History, is_broken, is_broken_at}
use Rattle.replay.proofs.Terms.{LeavesFronts, LeavesImages, records_in, written_array, accepted_all, recovered_all, IsFlightAt, Noted}
use Rattle.replay.proofs.Terms.{Part, WasDown, part_named}
use Rattle.manager.specs.Seen.{name_of}
use Rattle.wol_model.specs.Extents.{AreDistinct, Extent, covers_of}
use Rattle.wol_model.specs.Index.{Listed}
use Rattle.wol_model.specs.Recovered.{extents_of}
use Rattle.wol_model.specs.Trace.{Request}
use Rattle.run_laws.proofs.GoOn.{no_cut}
use Rattle.replay.proofs.FlightServed.{HasFlight, IsInFlight, WasOnItsWay, next_requests, no_write}
use Rattle.replay.proofs.HistoriesLeft.{IsHistoryAt}
use Rattle.replay.proofs.PartNamed.{at_named, down_last, none_at}
use Rattle.replay.proofs.RacksServed.{a_member}
use Rattle.wol_model.specs.History as history
use Rattle.wol_model.specs.declared.trace.Kind.TheVariants as kind

-- ---- The next requests

of_its_volume : (v : ℕ) (xs : List Answered) → AllByRecursion (λ (a : Answered). a.request.volume ≡ v) xs → AllByRecursion (λ (r : Request). r.volume ≡ v) (requests_in xs)
of_its_volume v [] all = tt
of_its_volume v (x ∷ xs) (first, others) = (first, of_its_volume v xs others)

all_front : {X : Type 0} (P : X → Type 0) (k : ℕ) (xs : List X) → AllByRecursion P xs → AllByRecursion P (take k xs)
all_front P zero xs all = tt
all_front P (suc k) [] all = tt
all_front P (suc k) (x ∷ xs) (first, others) = (first, all_front P k xs others)

all_behind : {X : Type 0} (P : X → Type 0) (k : ℕ) (xs : List X) → AllByRecursion P xs → AllByRecursion P (drop k xs)
all_behind P zero xs all = all
all_behind P (suc k) [] all = tt
all_behind P (suc k) (x ∷ xs) (first, others) = all_behind P k xs others

-- what requests of a volume write to it, each of them a write
written_to : (v : ℕ) (rs : List Request) → AllByRecursion (λ (r : Request). r.volume ≡ v) rs → AllByRecursion (λ (r : Request). r.kind ≡ kind.Write) rs → payloads v rs ≡ map payload rs
written_to v [] here writes = refl
written_to v (r ∷ rs) (volume, here) (is, writes) =
    ap (λ k. cons_option (write_to v r k) (payloads v rs)) is
    ∙ ap (λ (t : Bool). cons_option (cond t (Some (payload r)) None) (payloads v rs)) (eq-eqb r.volume v volume)
    ∙ ap (λ (l : List Write). payload r ∷ l) (written_to v rs here writes)

-- the writes in flight are those of the next requests of the volume
flown_to : (seen : List Noted) (v : ℕ) (answers : List Answered) (ws : List Write) (is : IsInFlight seen (answers_of v answers) ws) → map unversioned ws ≡ payloads v is.requests
flown_to seen v answers ws is =
    let own = answers_of v answers in
    let here = all_front (λ (r : Request). r.volume ≡ v) (length is.requests) (next_requests own)
    (all_behind (λ (r : Request). r.volume ≡ v) (length (answered_in own)) (requests_in own) (of_its_volume v own (all_of v answers))) in
    is.same ∙ sym (written_to v is.requests (subst (λ (l : List Request). AllByRecursion (λ (r : Request). r.volume ≡ v) l) (sym is.next) here) is.are_writes)

pub none_or : {X : Type 0} (x : Option X) → (IsTrue (is_some x) → ⊥) → x ≡ None
none_or None never = refl
none_or (Some y) never = absurd (never refl)

-- ---- One volume

-- the requests that may have been in flight
pub record FlightOf (config : Config) (answers : List Answered) (v : ℕ) (broken : Type 0) (entry new : Told) : Type 0 where
  pub requests : List Request
  pub follow : requests ≡ take (length requests) (drop (answered_count answers v) (of_volume v (requests_in answers)))
  pub are_writes : AllByRecursion (λ (r : Request). r.kind ≡ kind.Write) requests
  pub unless : (broken → ⊥) → requests ≡ []
  pub cuts : v < length (shapes_of config) → (images : Images) → AreLeft config new images
      → IsCut (recovered_from (shapes_of config) (images_read config entry) v) (payloads v (take (answered_count answers v) (of_volume v (requests_in answers)))) (payloads v requests) (recovered_from (shapes_of config) images v)

module _ {D : Type 0} (tells : Bool) (config : Config) (out : List (Option (ImageRest D))) (all_out : (k : ℕ) → k < length (shapes_of config) → IsImageOut out k) (old new : BayState) (ss : List (Station D))
    (ids : (v : ℕ) (s : Station D) → slice_get ss v ≡ Some s → s.id ≡ v) (answers : List Answered) (hs : List History) (are : AreHistories (IsTrue tells) config answers hs)
    (at : (v : ℕ) (h : History) → slice_get hs v ≡ Some h → IsHistoryAt tells config out old new ss v h)
    (flew : (v : ℕ) (s : Station D) (c : IsClosedVolume tells config out old new s) → slice_get ss v ≡ Some s → HasFlight (notes_of c.entries) (answers_of v answers) (notes_of c.entries))
    (entry opened left_ : Told) (begun : BeginAsRead config entry hs) (same_faulty : opened.faulty ≡ entry.faulty)
    (faulty : (s : Station D) (c : IsClosedVolume tells config out old new s) → (flight_of (entries_of (notes_of c.entries)) ≡ None → ⊥)
    → (name : PartName) × ((last_look (base_of_station s).volume.began.look (notes_of c.entries)).down ≡ Some name) × HasFaultyPart tells config s.id (base_of_station s).volume.began.view name opened left_)
    (recovers : (s : Station D) (c : IsClosedVolume tells config out old new s) → RecoversTo config out s c.entries left_) where
  module _ (v : ℕ) (h : History) (here : slice_get hs v ≡ Some h) where
    abbrev hist : IsHistoryAt tells config out old new ss v h
    hist = at v h here

    abbrev station : Station D
    station = hist.station

    abbrev noted : List Noted
    noted = notes_of hist.closed.entries

    abbrev entries : List history.Entry
    entries = entries_of noted

    abbrev array : List Block
    array = recovered_from (shapes_of config) (images_read config entry) v

    abbrev asked_writes : List Write
    asked_writes = payloads v (take (answered_count answers v) (of_volume v (requests_in answers)))

    id : station.id ≡ v
    id = ids v station hist.there

    array_is : (base_of_station station).volume.began.array ≡ array
    array_is = ap (λ (x : History). x.base.array) (sym hist.is) ∙ (begun v h here).array ∙ ap (recovered_from (shapes_of config) (images_read config entry)) (are.each v h here).owner

    answered : AreAnsweredBy v answers entries
    answered = subst (λ (x : History). AreAnsweredBy v answers (entries_of x.notes)) hist.is (are.each v h here).answered

    broken_is : is_broken_at hs v ≡ is_some (flight_of entries)
    broken_is = ap (λ (o : Option History). option_map_or is_broken o false) here ∙ ap is_broken hist.is

    recovered_is : (images : Images) → AreLeft config left_ images → recovered_out config out images station.id ≡ recovered_from (shapes_of config) images v
    recovered_is images left = recovered_all config out all_out images left.count station.id ∙ ap (recovered_from (shapes_of config) images) id

    cut_is : (ws : List Write) → flight_of entries ≡ Some ws ⊎ ((flight_of entries ≡ None) × (ws ≡ [])) → v < length (shapes_of config) → (images : Images) → AreLeft config left_ images
        → IsCut array asked_writes (map unversioned ws) (recovered_from (shapes_of config) images v)
    cut_is ws flight lt images left =
        let fs : unwrap_or (flight_of entries) [] ≡ ws = elim flight [
          | inl some ↦ ap (λ (o : Option (List Write)). unwrap_or o []) some
          | inr (none, empty) ↦ ap (λ (o : Option (List Write)). unwrap_or o []) none ∙ sym empty
        ] in
        let raw = (recovers station hist.closed).cut images left in
        let with_flight = subst (λ (l : List Write). IsCut (base_of_station station).volume.began.array (writes entries) l (recovered_out config out images station.id)) fs raw in
        let with_array = subst (λ (a : List Block). IsCut a (writes entries) ws (recovered_out config out images station.id)) array_is with_flight in
        let all = subst (λ (x : List Block). IsCut array (writes entries) ws x) (recovered_is images left) with_array in
        cuts_are_plain v array (recovered_from (shapes_of config) images v) answers entries ws (are.first v) answered all

    -- the cut, by the history
    stopped_here : (images : Images) → AreLeft config left_ images → IsCut h.base.array (writes (entries_of h.notes)) (in_flight (entries_of h.notes)) (recovered_from (shapes_of config) images v)
    stopped_here images left =
        let raw = subst (λ (x : List Block). IsCut (base_of_station station).volume.began.array (writes entries) (in_flight entries) x) (recovered_is images left) ((recovers station hist.closed).cut images left) in
        subst (λ (x : History). IsCut x.base.array (writes (entries_of x.notes)) (in_flight (entries_of x.notes)) (recovered_from (shapes_of config) images v)) (sym hist.is) raw

    -- the records that are left
    records_are : (images : Images) → AreLeft config left_ images → extents_of station.id (segments_out config out images) ≡ records_in config images v
    records_are images left = λ i. extents_of (id i) (all_segments (shapes_of config) (accepted_all config out all_out images left.count i))

    distinct_here : (images : Images) → AreLeft config left_ images → AreDistinct (covers_of (records_in config images v))
    distinct_here images left = subst (λ (es : List Extent). AreDistinct (covers_of es)) (records_are images left) ((recovers station hist.closed).distinct images left)

    listed_here : (IsTrue (is_broken h) → ⊥) → (images : Images) → AreLeft config left_ images → AreListedOf (last_look h.base.look h.notes).listed (records_in config images v)
    listed_here intact images left =
        let none : flight_of entries ≡ None = none_or (flight_of entries) (λ some. intact (ap is_broken hist.is ∙ some)) in
        subst (λ (x : History). AreListedOf (last_look x.base.look x.notes).listed (records_in config images v)) (sym hist.is)
        (subst (AreListedOf (last_look (base_of_station station).volume.began.look (notes_of hist.closed.entries)).listed) (records_are images left) ((recovers station hist.closed).listed images left none))

    on_loggers_here : (IsTrue (is_broken h) → ⊥) → (images : Images) → AreLeft config left_ images → (e : Listed) → Contains (last_look h.base.look h.notes).listed e → IsOnLogger (shapes_of config) images v h.base.view e
    on_loggers_here intact images left =
        let none : flight_of entries ≡ None = none_or (flight_of entries) (λ some. intact (ap is_broken hist.is ∙ some)) in
        subst (λ (x : History). (e : Listed) → Contains (last_look x.base.look x.notes).listed e → IsOnLogger (shapes_of config) images v x.base.view e) (sym hist.is)
        (λ e has. subst (λ (n : ℕ). IsOnLogger (shapes_of config) images n (base_of_station station).volume.began.view e) id ((recovers station hist.closed).on_loggers images left none e has))

    -- .. and what was in flight is one action
    action_here : IsOneAction v (drop (answered_count answers v) (requests_in (answers_of v answers))) (in_flight (entries_of h.notes))
    action_here = subst (λ (x : History). IsOneAction v (drop (answered_count answers v) (requests_in (answers_of v answers))) (in_flight (entries_of x.notes))) (sym hist.is) (by (flight_of entries) refl)
      where
        of_flight : (ws : List Write) → IsInFlight noted (answers_of v answers) ws → IsOneAction v (drop (answered_count answers v) (requests_in (answers_of v answers))) ws
        of_flight ws is = record {
          count = length is.requests;
          asked = flown_to noted v answers ws is ∙ ap (payloads v) is.next;
          together = elim is.together [
            | inl few ↦ inl few
            | inr logged ↦ inr (subst (λ (l : List Request). AllByRecursion (λ (r : Request). r.kind ≡ kind.Write) l) is.next is.are_writes, logged)
          ];
        }

        by : (o : Option (List Write)) → flight_of entries ≡ o → IsOneAction v (drop (answered_count answers v) (requests_in (answers_of v answers))) (in_flight entries)
        by None none = subst (λ (l : List Write). IsOneAction v (drop (answered_count answers v) (requests_in (answers_of v answers))) l) (sym (ap (λ (o : Option (List Write)). unwrap_or o []) none))
            (of_flight [] (no_write noted (answers_of v answers)))
        by (Some ws) some = subst (λ (l : List Write). IsOneAction v (drop (answered_count answers v) (requests_in (answers_of v answers))) l) (sym (ap (λ (o : Option (List Write)). unwrap_or o []) some))
            (of_flight ws (flew v station hist.closed hist.there ws some))

    whole_is : flight_of entries ≡ None → (images : Images) → AreLeft config left_ images → recovered_from (shapes_of config) images v ≡ written_array config answers entry v
    whole_is none images left =
        let raw : recovered_from (shapes_of config) images v ≡ after array (writes entries)
        = sym (recovered_is images left) ∙ (recovers station hist.closed).whole images left none ∙ ap (λ (a : List Block). after a (writes entries)) array_is in
        let cut : IsCut array (writes entries) [] (recovered_from (shapes_of config) images v) = whole 0 (omega arith) (raw ∙ ap (after array) (sym (append-nil (writes entries)))) in
        no_cut array asked_writes (recovered_from (shapes_of config) images v) (cuts_are_plain v array (recovered_from (shapes_of config) images v) answers entries [] (are.first v) answered cut)

    flying : (ws : List Write) → flight_of entries ≡ Some ws → IsInFlight noted (answers_of v answers) ws → FlightOf config answers v (IsTrue (is_broken_at hs v)) entry left_
    flying ws some is = record {
      requests = is.requests;
      follow = is.next ∙ ap (λ (l : List Request). take (length is.requests) (drop (answered_count answers v) l)) (volume_requests v answers);
      are_writes = is.are_writes;
      unless = λ whole. absurd (whole (broken_is ∙ ap is_some some));
      cuts = λ lt images left. subst (λ (l : List Write). IsCut array asked_writes l (recovered_from (shapes_of config) images v)) (flown_to noted v answers ws is) (cut_is ws (inl some) lt images left);
    }

    flight_here : FlightOf config answers v (IsTrue (is_broken_at hs v)) entry left_
    flight_here = by (flight_of entries) refl
      where
        by : (o : Option (List Write)) → flight_of entries ≡ o → FlightOf config answers v (IsTrue (is_broken_at hs v)) entry left_
        by None none = record { requests = []; follow = refl; are_writes = tt; unless = λ whole. refl; cuts = cut_is [] (inr (none, refl)) }
        by (Some ws) some = flying ws some (flew v station hist.closed hist.there ws some)

    -- what was in flight was on its way to the part that is down in the end
    way_here : (name : PartName) → (last_look h.base.look h.notes).down ≡ Some name → IsFlightAt (part_named v name) (in_flight (entries_of h.notes))
    way_here name down = subst (λ (x : History). IsFlightAt (part_named v name) (in_flight (entries_of x.notes))) (sym hist.is) (by (flight_of entries) refl)
      where
        same : (p : Part) → WasDown p noted → name ≡ name_of p
        same p was =
            let each = are.each v h here in
            same_Some name (name_of p) (sym down ∙ down_last h.base.look p h.notes each.legal.ruled each.ruled each.legal.breaks (subst (λ (x : History). WasDown p x.notes) (sym hist.is) was))

        of_way : (ws : List Write) → WasOnItsWay noted ws → IsFlightAt (part_named v name) ws
        of_way ws (inl none) = subst (IsFlightAt (part_named v name)) (sym none) (none_at (part_named v name))
        of_way ws (inr (p, was, at_part)) = subst (λ (n : PartName). IsFlightAt (part_named v n) ws) (sym (same p was)) (at_named v p ws at_part)

        by : (o : Option (List Write)) → flight_of entries ≡ o → IsFlightAt (part_named v name) (in_flight entries)
        by None none = subst (IsFlightAt (part_named v name)) (sym (ap (λ (o : Option (List Write)). unwrap_or o []) none)) (none_at (part_named v name))
        by (Some ws) some = subst (IsFlightAt (part_named v name)) (sym (ap (λ (o : Option (List Write)). unwrap_or o []) some)) (of_way ws (flew v station hist.closed hist.there ws some).way)

    faulty_here : IsTrue (is_broken h) → (name : PartName) × ((last_look h.base.look h.notes).down ≡ Some name) × IsFlightAt (part_named v name) (in_flight (entries_of h.notes)) × HasFaultyPart tells config v h.base.view name entry left_
    faulty_here broken =
        let some : is_some (flight_of entries) ≡ true = sym (ap is_broken hist.is) ∙ broken in
        let (name, down, part) = faulty station hist.closed (λ none. (let no : true ≡ false = sym some ∙ ap is_some none in absurd (cc no))) in
        let here = subst (λ (x : History). HasFaultyPart tells config v x.base.view name opened left_) (sym hist.is) (subst (λ (n : ℕ). HasFaultyPart tells config n (base_of_station station).volume.began.view name opened left_) id part) in
        let ended : (last_look h.base.look h.notes).down ≡ Some name = ap (λ (x : History). (last_look x.base.look x.notes).down) hist.is ∙ down in (
          name,
          ended,
          way_here name ended,
          record {
            more = here.more;
            more_is = here.more_is ∙ ap (λ l. l ++ here.more) same_faulty;
            conf = here.conf;
            conf_is = here.conf_is;
            among = here.among;
            lies = here.lies;
          },
        )

  -- ---- All of them

  a_history : (v : ℕ) → v < length (shapes_of config) → (h : History) × (slice_get hs v ≡ Some h)
  a_history v lt = a_member hs v (omega (arith, lt, are.count))

  flights : (v : ℕ) → FlightOf config answers v (IsTrue (is_broken_at hs v)) entry left_
  flights v = elim (cases_lt v (length (shapes_of config))) [
    | inl lt ↦ let (h, here) = a_history v lt in flight_here v h here
    | inr beyond ↦ record { requests = []; follow = refl; are_writes = tt; unless = λ whole. refl; cuts = λ lt. absurd (omega (arith, lt, beyond)) }
  ]

  pub images_left : KeepsSound (shapes_of config) (AreLeft config entry) (AreLeft config left_) → LeavesFronts config entry left_ → LeavesImages tells config answers hs entry left_
  images_left sound fronts = record {
    faulty = faulty_here;
    whole = λ v lt intact images left. (let (h, here) = a_history v lt in
        whole_is v h here (none_or (flight_of (entries v h here)) (λ some. intact (broken_is v h here ∙ some))) images left);
    cuts = record {
      flight = λ v. (flights v).requests;
      follow = λ v. (flights v).follow;
      are_writes = λ v. (flights v).are_writes;
      unless = λ v. (flights v).unless;
      cuts = λ images left v lt. (flights v).cuts lt images left;
    };
    action = action_here;
    stopped = stopped_here;
    distinct = distinct_here;
    listed = listed_here;
    on_loggers = on_loggers_here;
    fronts = fronts;
    sound = sound;
  }
