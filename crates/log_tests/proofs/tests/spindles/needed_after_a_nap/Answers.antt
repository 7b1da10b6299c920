-- The uses are those of a pass 1 that keeps the account, and of a pass 0 that needs the disk.
use Rattle.std.proofs.Common.{◌≡◌, [], refl, ◌∙◌}
use Rattle.spin_model.specs.Spindles.{SpindleView, StandsFor}
use Rattle.log_tests.proofs.tests.spindles.needed_after_a_nap.Goals as goal

based : (s : SpindleView) → StandsFor s (record { volume = s.volume; timeout = s.timeout }) [] → s.volume ≡ 3 → s.timeout ≡ 600000000 → StandsFor s (record { volume = 3; timeout = 600000000 }) []
based s st volume timeout = record { volume = volume; timeout = timeout; spelled = refl; legal = tt; shows = st.shows }

pub returns-clause-asleep : goal.returns-clause-asleep
returns-clause-asleep c =
    let made = based c.new-spindle.result c.new-spindle.ensures.stands c.new-spindle.ensures.volume c.new-spindle.ensures.timeout in
    let began = c.begin-awake.ensures.stands _ _ 1 (c.start.ensures.stands _ _ 1 made) in
    c.begin-awake.ensures.answer ∙ began.shows.awake

pub returns-clause-sums : goal.returns-clause-sums
returns-clause-sums c to =
    let made = based c.new-spindle.result c.new-spindle.ensures.stands c.new-spindle.ensures.volume c.new-spindle.ensures.timeout in
    let began = c.begin-awake.ensures.stands _ _ 1 (c.start.ensures.stands _ _ 1 made) in
    let used = c.done.ensures.stands _ _ 0 (c.need-token.ensures.stands _ _ 0 began refl) refl in
    let sums = used.shows.sums to in
    λ i. record { wakes = sums.wakes i; sleeps = sums.sleeps i; standby = sums.standby i }
