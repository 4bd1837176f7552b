-- A struct is read exactly if it is one.
use Rattle.std.proofs.Common.{ℕ, List, Result, Ok, Err, subst}
use Rattle.std.specs.Prelude.{IfOk}
use Rattle.vortex_parquet.specs.declared.fault.ReadError.{ReadError}
use Rattle.vortex_parquet.specs.Reading.{Gives}
use Rattle.vortex_parquet.specs.Fields.{fields_before, struct_of}
use Rattle.vortex_parquet.specs.Skip.{FieldData, skip_at}
use Rattle.vortex_parquet.specs.Grammar.{IsStruct, IsValue}
use Rattle.vortex_parquet.proofs.Smaller.{smaller}
use Rattle.vortex_parquet.proofs.Sound.{skip_sound, struct_sound}
use Rattle.vortex_parquet.proofs.Complete.{skip_complete, struct_complete}

pub gives_struct : {X : Type 0} (bytes : List ℕ) (view : X → List FieldData × List ℕ) (r : Result X ReadError) → Gives view r (struct_of bytes) → IfOk r (λ x. IsStruct (IsValue 32) (view x).0 bytes (view x).1)
unfolding struct_of
gives_struct bytes view (Ok x) h = struct_sound (skip_at 32) (IsValue 32) (skip_sound 32) bytes (view x).0 (view x).1 h
gives_struct bytes view (Err e) h = tt

pub struct_gives : {X : Type 0} (bytes : List ℕ) (view : X → List FieldData × List ℕ) (r : Result X ReadError) → Gives view r (struct_of bytes) → (fs : List FieldData) (rest : List ℕ) → IsStruct (IsValue 32) fs bytes rest → Gives view r (fields_before fs rest)
unfolding struct_of
struct_gives bytes view r h fs rest s = subst (Gives view r) (struct_complete (skip_at 32) (IsValue 32) (skip_complete 32) (smaller 32) bytes fs rest s) h
