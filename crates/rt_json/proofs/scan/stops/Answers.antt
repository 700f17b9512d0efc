use Rattle.std.proofs.Common.{arith, not}
use Rattle.std.proofs.lemmas.Simd.{zip2_splat}
use Rattle.rt_json.specs.Reads.{is_plain}
use Rattle.rt_json.proofs.Lanes.{hit, below, either, masked}
use Rattle.rt_json.proofs.scan.stops.Goals as goal

pub returns : goal.returns
returns c =
    let v = c.args.bytes in
    let long = c.fits-bytes.0 in
    masked _ (λ b. not (is_plain b)) v _ (omega arith) c.fits-bytes.1 (either _ _ v (either _ _ v (zip2_splat hit v 16 34 long) (zip2_splat hit v 16 92 long)) (zip2_splat below v 16 32 long)) tt
