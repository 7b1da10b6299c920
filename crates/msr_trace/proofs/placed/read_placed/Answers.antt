use Rattle.std.proofs.Common.{◌∙◌, ◌≡◌, ◌^◌, ◌<◌, ◌≤◌, ◌+◌, false, sym, arith}
use Rattle.std.specs.List.{list_any}
use Rattle.wol_model.specs.Trace.{TraceLine}
use Rattle.msr_trace.specs.Spelling.{AreDigits, Digits, is_reserved}
use Rattle.msr_trace.proofs.Spelled.{body_at}
use Rattle.msr_trace.proofs.placed.read_placed.Goals as goal

pub returns : goal.returns
returns c = λ l is.
    let line : TraceLine = record {
      time = c.in_ok-time-2.time;
      host = c.in_ok-host.host.now;
      disk = c.in_ok-disk-2.disk;
      kind = c.in_ok-kind-2.kind;
      offset = c.in_ok-offset-2.offset;
      size = c.in_ok-size-2.size;
      response = c.in_ok-response.response;
    } in
    let digits : Digits = record {
      time = c.in_ok-time.time.now;
      disk = c.in_ok-disk.disk.now;
      offset = c.in_ok-offset.offset.now;
      size = c.in_ok-size.size.now;
      response = c.in_ok-size.response.now;
    } in
    let free : list_any is_reserved c.in_ok-host.host.now ≡ false = sym c.has_reserved.ensures ∙ c.if-has_reserved.false in
    let small : c.in_ok-disk-2.disk < 2 ^ 32 = omega (arith, c.if-disk-from.false, c.from.ensures) in
    let few : c.in_ok-size-2.size ≤ 67108864 = omega (arith, c.if-size-gt-SIZE_MAX.false) in
    let within : c.in_ok-offset-2.offset + c.in_ok-size-2.size < 2 ^ 64 = omega (arith, few) in
    let are : AreDigits line digits = record {
      time = sym c.number.ensures ∙ c.in_ok-time-2.was;
      disk = sym c.number-2.ensures ∙ c.in_ok-disk-2.was;
      offset = sym c.number-3.ensures ∙ c.in_ok-offset-2.was;
      size = sym c.number-4.ensures ∙ c.in_ok-size-2.was;
      response = sym c.number-5.ensures ∙ c.in_ok-response.was;
      disk_fits = small;
      fits = record { size = few; end = within };
    } in
    rw is (body_at c.args.body.now c.in_ok-time.rest.now c.in_ok-host.rest.now c.in_ok-disk.rest.now c.in_ok-kind.rest.now c.in_ok-offset.rest.now c.in_ok-kind.kind.now line digits
    c.in_ok-time.ensures c.in_ok-host.ensures c.in_ok-disk.ensures c.in_ok-kind.ensures c.in_ok-offset.ensures c.in_ok-size.ensures c.in_ok-kind-2.ensures are free)
