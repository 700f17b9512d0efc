-- The bytes of a part, where it has any.
use Rattle.std.proofs.Common.{◌≡◌, ◌↔◌, ℕ, List, Some, None, Result, Ok, Err, refl, ap}
use Rattle.std.specs.Result.{result_ok}
use Rattle.base64.specs.declared.decode.DecodeError.{DecodeError}
use Rattle.base64.specs.declared.engine.general_purpose.GeneralPurpose.{GeneralPurpose}
use Rattle.base64.specs.Engines.{url_safe_no_pad}
use Rattle.base64.specs.GeneralPurpose.{IsBytes, encode_of, decode_of, decoded_of}
use Rattle.base64.proofs.EngineFacts.{decode_of_iff}

pub decoded : (e : GeneralPurpose) (part bytes : List ℕ) → decode_of e part ≡ Ok bytes → decoded_of e part ≡ Some bytes
unfolding decoded_of
decoded e part bytes h = ap result_ok h

pub not_decoded : (e : GeneralPurpose) (part : List ℕ) (fault : DecodeError) → decode_of e part ≡ Err fault → decoded_of e part ≡ None
unfolding decoded_of
not_decoded e part fault h = ap result_ok h

decoded_from : (r : Result (List ℕ) DecodeError) (bytes : List ℕ) → result_ok r ≡ Some bytes → r ≡ Ok bytes
decoded_from (Ok x) bytes h = let e : x ≡ bytes = cc in ap Ok e
decoded_from (Err e) bytes h = cc

-- a part has the bytes of which it is the text
pub decoded_iff : (part bytes : List ℕ) → IsBytes part → IsBytes bytes → (decoded_of url_safe_no_pad part ≡ Some bytes) ↔ (part ≡ encode_of url_safe_no_pad bytes)
unfolding decoded_of
decoded_iff part bytes p b =
    let iff = decode_of_iff url_safe_no_pad part bytes (refl, refl) p b in
    (λ h. iff.0 (decoded_from (decode_of url_safe_no_pad part) bytes h), λ h. ap result_ok (iff.1 h))
