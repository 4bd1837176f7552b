-- Leaf columns of a logical type hold whole numbers of that type, and those of floats the whole numbers of floats.
use Rattle.std.specs.Prelude.{◌≡◌, ℕ, ℤ, pos, negsuc, Some}
use Rattle.vortex_base.specs.declared.types.PType.TheVariants as ptype
use Rattle.vortex_logical.specs.declared.cell_range.CellRange.{CellRange}
use Rattle.vortex_logical.specs.declared.float_type.FloatType.{FloatType}
use Rattle.vortex_logical.specs.declared.logical_type.LogicalType.{LogicalType}
use Rattle.vortex_logical.specs.LogicalTypes.{bits_64, range}
use Rattle.vortex_logical.specs.Lowering.{IsIn}
use Rattle.vortex_parquet.specs.declared.columns.Form.{Form}
use Rattle.vortex_parquet.specs.declared.columns.Form.TheVariants as form
use Rattle.vortex_parquet.specs.declared.columns.Leaf.{Leaf}
use Rattle.vortex_parquet.specs.declared.meaning.LeafMeaning.TheVariants as meaning
use Rattle.vortex_parquet.specs.Records.{ElementData}
use Rattle.vortex_parquet.specs.Columns.{leaf_of}

abbrev pub bits_32 : CellRange
bits_32 = record { least = negsuc 2_147_483_647; greatest = pos 2_147_483_647 }

-- each number of one range is in another
abbrev pub IsWithin : CellRange → CellRange → Type 0
IsWithin r s = (n : ℤ) → IsIn r n → IsIn s n

-- the values of a form are whole numbers with a sign, and a column of the type may hold each of them
abbrev pub AreCells : LogicalType → Form → Type 0
AreCells t (form.Four ptype.I32) = IsWithin bits_32 (range t)
AreCells t (form.Eight ptype.I64) = IsWithin bits_64 (range t)
AreCells t form.Decimal = IsWithin bits_64 (range t)
AreCells t f = ⊥

-- a leaf column of floats is read as floats of that type
abbrev pub FloatLeaves : Type 0
FloatLeaves = (place : ℕ) (e : ElementData) (l : Leaf) (t : FloatType) → leaf_of place e ≡ Some l → l.meaning ≡ meaning.Float t → l.form ≡ form.Float t

abbrev pub LogicalLeaves : Type 0
LogicalLeaves = (place : ℕ) (e : ElementData) (l : Leaf) (t : LogicalType) → leaf_of place e ≡ Some l → l.meaning ≡ meaning.Logical t → AreCells t l.form
