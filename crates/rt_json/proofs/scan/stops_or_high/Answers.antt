use Rattle.std.proofs.Common.{◌+◌, ◌-◌, ◌%◌, arith, not}
use Rattle.std.proofs.lemmas.Simd.{zip2_splat}
use Rattle.rt_json.specs.Reads.{is_ascii_plain}
use Rattle.rt_json.proofs.Lanes.{hit, at_most, either, from_splat, masked}
use Rattle.rt_json.proofs.scan.stops_or_high.Goals as goal

pub returns : goal.returns
returns c =
    let v = c.args.bytes in
    let long = c.fits-bytes.0 in
    masked _ (λ b. not (is_ascii_plain b)) v _ (omega arith) c.fits-bytes.1
    (either _ _ v (either _ _ v (zip2_splat hit v 16 34 long) (zip2_splat hit v 16 92 long)) (from_splat at_most _ 96 16 v long (zip2_splat (λ a b. (a + (256 - b)) % 256) v 16 32 long))) tt
