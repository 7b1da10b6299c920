-- A configuration with another timeout is valid too.
use Rattle.std.proofs.Common.{◌≡◌, ◌≤◌, ◌*◌, arith}
use Rattle.wol_run.proofs.comparing.with_timeout.Goals as goal

pub returns-clause-valid : goal.returns-clause-valid
returns-clause-valid c =
    let v = c.requires.valid in
    let range : (1 ≤ c.in-Some.ms) × (c.in-Some.ms ≤ 86400000) = rw c.in-Some.is at c.requires.range in record {
      segment_blocks = v.segment_blocks;
      timeout = (let some = range.0 in omega (arith, some), let most = range.1 in omega (arith, most));
      powers = v.powers;
      wake = v.wake;
      count = v.count;
      volumes = v.volumes;
      apart = v.apart;
    }
