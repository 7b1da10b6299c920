-- Neither a step of reclaim nor anything else that is Kept changes the part that is down or the next version.
use Rattle.std.proofs.Common.{◌≡◌, ℕ, List, refl, ap, ◌∙◌}
use Rattle.wol_promise.specs.Policy.{Look, IsReclaim, AreReclaims}
use Rattle.wol_promise.specs.Policy as policy
use Rattle.wol_promise.specs.Ruled.{IsKeep}
use Rattle.wol_promise.specs.Ruled as ruled

-- both are the same in these looks
abbrev HasSame : Look → Look → Type 0
HasSame l m = (m.down ≡ l.down) × (m.next ≡ l.next)

same_by : (l : Look) {m k : Look} → m ≡ k → HasSame l k → HasSame l m
same_by l is same = (ap (λ (x : Look). x.down) is ∙ same.0, ap (λ (x : Look). x.next) is ∙ same.1)

pub reclaim_same : (l m : Look) → IsReclaim l m → HasSame l m
reclaim_same l m (policy.puts_home k put e up at due is) = same_by l is (refl, refl)
reclaim_same l m (policy.gives_up k e at there is) = same_by l is (refl, refl)

pub reclaims_same : (l m : Look) → AreReclaims l m → HasSame l m
reclaims_same l m (policy.none x) = (refl, refl)
reclaims_same l m (policy.more x k y first rest) =
    let (down, next) = reclaim_same l k first in let (down', next') = reclaims_same k m rest in (down' ∙ down, next' ∙ next)

pub keep_same : (passed : List ℕ) (pass : ℕ) (l m : Look) → IsKeep passed pass l m → HasSame l m
keep_same passed pass l m (ruled.same is) = same_by l is (refl, refl)
keep_same passed pass l m (ruled.refused w client drain) = same_by l drain.bare (refl, refl)
keep_same passed pass l m (ruled.flags is long so) = same_by l so (refl, refl)
keep_same passed pass l m (ruled.helped is step) = reclaim_same l m step
keep_same passed pass l m (ruled.reclaimed is steps) = reclaims_same l m steps
