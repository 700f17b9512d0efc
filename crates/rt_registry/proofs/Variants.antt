-- `Send` and `Sync` of an enum from those of what its variants hold, each as its author sees it, and of what is shared.
use mathlib.Core.Path.{◌≡◌, subst, sym}
use mathlib.Core.Logic.{inl, inr}
use mathlib.Core.List.{List, [], ◌∷◌}
use denote.Hole.{as_row}
use denote.RattleType.{RattleType}
use denote.Struct.Field.{Field, rows}
use denote.Struct.Values.{Values, intos}
use denote.Enum.Enum.{Enum}
use denote.Enum.Declared.{Declared, Choice, row, rowss, intoss, shape}
use denote.Param.Send.{IsSend, IsSync, SendAt, SyncAt, FieldsAt, LiveAt, recorded_send_at, recorded_send_of}
use denote.Param.Send.{enum_send_at, enum_sync_at}
use denote.Param.SendFields.{FieldsHave, VariantsHave, as_row_send, as_row_sync}
use Rattle.rt_value.specs.contracts.shared.Shared as Shared
use Rattle.rt_value.proofs.Crossing.{Shared-send, Shared-sync}

abbrev pub Crosses : RattleType → Type 0
Crosses T = IsSend T × IsSync T

pub shared_send : (T : RattleType) → IsSend T → IsSync T → IsSend (as_row (Shared.the_field T))
shared_send T s y = as_row_send (Shared.the_field T) (Shared-send T s y)

pub shared_sync : (T : RattleType) → IsSend T → IsSync T → IsSync (as_row (Shared.the_field T))
shared_sync T s y = as_row_sync (Shared.the_field T) (Shared-sync T s y)

fields_send : (Fs : List Field) → FieldsHave IsSend Fs → (v : Values Fs) → FieldsAt SendAt (rows Fs) (intos Fs v)
fields_send [] s v = tt
fields_send (F ∷ Fs) s v = (recorded_send_at F.row F.Value F.into F.into_one s.0 v.0, fields_send Fs s.1 v.1)

fields_sync : (Fs : List Field) → FieldsHave IsSync Fs → (v : Values Fs) → FieldsAt SyncAt (rows Fs) (intos Fs v)
fields_sync [] s v = tt
fields_sync (F ∷ Fs) s v = (s.0.shared v.0, fields_sync Fs s.1 v.1)

variant_sends : (Fss : List (List Field)) → VariantsHave IsSend Fss → (c : Choice Fss) → LiveAt SendAt (rowss Fss) (intoss Fss c)
variant_sends [] s c = absurd c
variant_sends (Fs ∷ Fss) s (inl v) = fields_send Fs s.0 v
variant_sends (Fs ∷ Fss) s (inr c) = variant_sends Fss s.1 c

variant_syncs : (Fss : List (List Field)) → VariantsHave IsSync Fss → (c : Choice Fss) → LiveAt SyncAt (rowss Fss) (intoss Fss c)
variant_syncs [] s c = absurd c
variant_syncs (Fs ∷ Fss) s (inl v) = fields_sync Fs s.0 v
variant_syncs (Fs ∷ Fss) s (inr c) = variant_syncs Fss s.1 c

module _ (T : Declared) (choice : T.D → Choice T.parts) (by_choice : (d : T.D) → T.to d ≡ intoss T.parts (choice d)) where
  pub enum_sends : VariantsHave IsSend T.parts → IsSend (row T)
  enum_sends s =
      recorded_send_of (Enum (shape T)) T.D T.to T.to_one
      (λ d. enum_send_at (shape T) (T.to d)
      (subst (LiveAt SendAt (rowss T.parts)) (sym (by_choice d)) (variant_sends T.parts s (choice d))))

  pub enum_syncs : VariantsHave IsSync T.parts → IsSync (row T)
  enum_syncs s =
      record {
        shared = λ d. enum_sync_at (shape T) (T.to d)
            (subst (LiveAt SyncAt (rowss T.parts)) (sym (by_choice d)) (variant_syncs T.parts s (choice d)));
      }
