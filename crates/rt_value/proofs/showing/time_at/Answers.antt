use Rattle.std.proofs.Common.{◌<◌, ◌*◌, ◌/◌, ◌%◌, arith, refl}
use Rattle.jiff_core.specs.declared.civil.time.Time.{Time}
use Rattle.rt_value.proofs.ShownText.{clock_printed}
use Rattle.rt_value.proofs.showing.time_at.Goals as goal

pub returns : goal.returns
returns c =
    let seconds = c.args.seconds in
    let micros = c.args.micros in
    let in_day : seconds < 86400 = c.requires.in_day in
    let in_second : micros < 1000000 = c.requires.in_second in
    let time : Time = record {
      hour = seconds / 3600;
      minute = seconds / 60 % 60;
      second = seconds % 60;
      subsec_nanosecond = micros * 1000;
      hour_in = omega (arith, in_day);
      minute_in = omega arith;
      second_in = omega arith;
      subsec_in = omega (arith, in_second);
    } in
    clock_printed time seconds micros in_second refl refl refl refl
