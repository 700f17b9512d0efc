use Rattle.std.proofs.Common.{Some, ap, sym, ◌∙◌}
use Rattle.base64.specs.Engines.{url_safe_no_pad}
use Rattle.rt_token.proofs.Decoded.{decoded, not_decoded}
use Rattle.rt_token.proofs.checking.bytes_of.Goals as goal

pub returns-in-Ok : goal.returns-in-Ok
returns-in-Ok c = decoded url_safe_no_pad c.args.part.now _ c.in-Ok.ensures.ok ∙ ap Some (sym c.new.ensures)

pub returns-in-Err-DecodeError : goal.returns-in-Err-DecodeError
returns-in-Err-DecodeError c = not_decoded url_safe_no_pad c.args.part.now c.in-Err-DecodeError.field-0-0 (rw c.in-Err-DecodeError.field-0-is at c.in-Err-DecodeError.ensures.err)
