-- Values as bytes.
use Rattle.std.specs.Prelude.{◌≡◌, ◌<◌, ℕ, ◌==◌, ◌&&◌, Bool, true, false, List, [], ◌∷◌, Option, None, Some, Result, Ok, Err, IsTrue, if◌then◌else◌, length, nat_le, take}
use Rattle.std.specs.Int.{cast_signed, cast_unsigned, from_le_bytes, to_le_bytes, w8, w16, w32, w64}
use Rattle.std.specs.Str.{is_utf8}
use Rattle.vortex_base.specs.Data.Types.{ptype_index}
use Rattle.vortex_base.specs.Data.Values.{in_range, is_value, ptype_of}
use Rattle.vortex_base.specs.declared.dtype.DType.{DType}
use Rattle.vortex_base.specs.declared.dtype.DType.TheVariants as dtype
use Rattle.vortex_base.specs.declared.types.PType.{PType}
use Rattle.vortex_base.specs.declared.types.PType.TheVariants as ptype
use Rattle.vortex_base.specs.declared.pvalue.PValue.{PValue}
use Rattle.vortex_base.specs.declared.pvalue.PValue.TheVariants as number
use Rattle.vortex_base.specs.declared.scalar_value.ScalarValue.{ScalarValue}
use Rattle.vortex_base.specs.declared.scalar_value.ScalarValue.TheVariants as value
use Rattle.vortex_capi.specs.declared.status.Status.{Status}
use Rattle.vortex_capi.specs.declared.status.Status.TheVariants.{BadStat, BadLength, BadValue}
use Rattle.vortex_capi.specs.Given.{fixed}
use Rattle.vortex_capi.specs.Types.{number_width}

-- ---- from bytes

-- the number that so many bytes make, where they are there
abbrev pub made_of : ℕ → (List ℕ → PValue) → List ℕ → Option PValue
made_of w f bytes = if nat_le w (length bytes) then Some (f (take w bytes)) else None

-- the number of a type that the bytes begin with, the lowest byte first
abbrev pub number_of : PType → List ℕ → Option PValue
number_of ptype.U8 bytes = made_of 1 (λ bs. number.U8 (from_le_bytes w8 bs)) bytes
number_of ptype.U16 bytes = made_of 2 (λ bs. number.U16 (from_le_bytes w16 bs)) bytes
number_of ptype.U32 bytes = made_of 4 (λ bs. number.U32 (from_le_bytes w32 bs)) bytes
number_of ptype.U64 bytes = made_of 8 (λ bs. number.U64 (from_le_bytes w64 bs)) bytes
number_of ptype.I8 bytes = made_of 1 (λ bs. number.I8 (cast_signed w8 (from_le_bytes w8 bs))) bytes
number_of ptype.I16 bytes = made_of 2 (λ bs. number.I16 (cast_signed w16 (from_le_bytes w16 bs))) bytes
number_of ptype.I32 bytes = made_of 4 (λ bs. number.I32 (cast_signed w32 (from_le_bytes w32 bs))) bytes
number_of ptype.I64 bytes = made_of 8 (λ bs. number.I64 (cast_signed w64 (from_le_bytes w64 bs))) bytes

abbrev pub number_from : PType → Option (List ℕ) → Option PValue
number_from t None = None
number_from t (Some bytes) = number_of t bytes

-- number i of those of a type that stand one behind the other
abbrev pub number_at : PType → List ℕ → ℕ → Option PValue
number_at t values i = number_from t (fixed values (number_width t) i)

-- the number is one of the type
abbrev pub is_number : PType → PValue → Bool
is_number t p = (ptype_index (ptype_of p) == ptype_index t) && in_range p

-- number i of those is one of the type
pub record IsNumberAt (t : PType) (values : List ℕ) (i : ℕ) : Type 0 where
  pub number : PValue
  pub read : number_at t values i ≡ Some number
  pub fits : IsTrue (is_number t number)

-- each of the first n is
abbrev pub AreNumbers : PType → List ℕ → ℕ → Type 0
AreNumbers t values n = (i : ℕ) → i < n → IsNumberAt t values i

-- the truth of the first byte
abbrev pub truth_of : List ℕ → Option Bool
truth_of [] = None
truth_of (b ∷ bytes) = if b == 0 then Some false else (if b == 1 then Some true else None)

abbrev pub truth_value : Option Bool → Result ScalarValue Status
truth_value None = Err BadValue
truth_value (Some b) = Ok (value.Bool b)

abbrev pub number_value : Option PValue → Result ScalarValue Status
number_value None = Err BadLength
number_value (Some n) = Ok (value.Primitive n)

abbrev pub utf8_value : List ℕ → Result ScalarValue Status
utf8_value bytes = if is_utf8 bytes then Ok (value.Utf8 bytes) else Err BadValue

-- a text is of the types of texts alone
abbrev pub text_of : DType → List ℕ → Result ScalarValue Status
text_of (dtype.Utf8 n) bytes = utf8_value bytes
text_of t bytes = Err BadValue

-- the value of a type that bytes are
abbrev pub value_of : DType → List ℕ → Result ScalarValue Status
value_of dtype.Null bytes = Err BadStat
value_of (dtype.Bool n) bytes = truth_value (truth_of bytes)
value_of (dtype.Primitive p n) bytes = number_value (number_of p bytes)
value_of (dtype.Utf8 n) bytes = utf8_value bytes
value_of (dtype.Binary n) bytes = Ok (value.Binary bytes)
value_of (dtype.MinMaxState e n) bytes = Err BadStat

-- what was read is a value of the type
pub record ReadsValue (t : DType) (r : Result ScalarValue Status) : Type 0 where
  pub value : ScalarValue
  pub read : r ≡ Ok value
  pub fits : IsTrue (is_value value t)

-- ---- to bytes

-- the bytes of a number, the lowest first
abbrev pub number_bytes : PValue → List ℕ
number_bytes (number.U8 n) = to_le_bytes w8 n
number_bytes (number.U16 n) = to_le_bytes w16 n
number_bytes (number.U32 n) = to_le_bytes w32 n
number_bytes (number.U64 n) = to_le_bytes w64 n
number_bytes (number.I8 n) = to_le_bytes w8 (cast_unsigned w8 n)
number_bytes (number.I16 n) = to_le_bytes w16 (cast_unsigned w16 n)
number_bytes (number.I32 n) = to_le_bytes w32 (cast_unsigned w32 n)
number_bytes (number.I64 n) = to_le_bytes w64 (cast_unsigned w64 n)

-- the bytes of a value
abbrev pub bytes_of : ScalarValue → List ℕ
bytes_of (value.Bool false) = 0 ∷ []
bytes_of (value.Bool true) = 1 ∷ []
bytes_of (value.Primitive n) = number_bytes n
bytes_of (value.Utf8 bs) = bs
bytes_of (value.Binary bs) = bs
