-- Why a call about a footer is refused, as a caller in C is told.
use Rattle.std.specs.Prelude.{ℕ}
use Rattle.vortex_capi.specs.SqlCalls.SqlPrunes.{in_text, of_sql}
use Rattle.vortex_capi.specs.Statuses.{at_column, nowhere}
use Rattle.vortex_capi.specs.declared.fault.Refusal.{Refusal}
use Rattle.vortex_capi.specs.declared.status.Status.TheVariants.{BadFooter, NoMemory, NotRead}
use Rattle.vortex_parquet.specs.declared.columns.LeftOut.{LeftOut}
use Rattle.vortex_parquet.specs.declared.columns.LeftOut.TheVariants as left_out
use Rattle.vortex_parquet.specs.declared.fault.Fault.{Fault as FooterFault}
use Rattle.vortex_parquet.specs.declared.fault.Fault.TheVariants as footer
use Rattle.vortex_parquet.specs.declared.fault.ReadError.{ReadError}
use Rattle.vortex_parquet.specs.declared.fault.ReadError.TheVariants as read
use Rattle.vortex_predicates.specs.declared.parquet.error.FooterError.{FooterError}
use Rattle.vortex_predicates.specs.declared.parquet.error.FooterError.TheVariants as error
use Rattle.vortex_stats.specs.declared.error.StatsError.{StatsError}
use Rattle.vortex_stats.specs.declared.error.StatsError.TheVariants as stats

abbrev pub no_memory : Refusal
no_memory = nowhere NoMemory

-- the faults of footers by their numbers
abbrev pub number_of : FooterFault → ℕ
number_of footer.NotParquet = 0
number_of footer.Encrypted = 1
number_of footer.FooterLength = 2
number_of footer.Short = 3
number_of footer.Varint = 4
number_of footer.Negative = 5
number_of footer.FieldId = 6
number_of footer.Kind = 7
number_of footer.Length = 8
number_of footer.Depth = 9
number_of footer.Missing = 10
number_of footer.Schema = 11
number_of footer.Columns = 12
number_of footer.Pages = 14

abbrev pub bad_footer : FooterFault → Refusal
bad_footer f = at_column BadFooter (number_of f)

abbrev pub of_read : ReadError → Refusal
of_read read.Memory = no_memory
of_read (read.Fault f) = bad_footer f

-- a bound is no value of its column's type; by built-in rules there is no other cause but memory
abbrev pub of_stats : StatsError → Refusal
of_stats stats.Mismatch = at_column BadFooter 13
of_stats e = no_memory

-- why no test of a column could be meant, by number
abbrev pub reason_of : LeftOut → ℕ
reason_of left_out.Nested = 0
reason_of left_out.Repeated = 1
reason_of left_out.Duplicate = 2
reason_of left_out.Type = 3

abbrev pub of_footer : FooterError → Refusal
of_footer error.Memory = no_memory
of_footer (error.Footer f) = bad_footer f
of_footer (error.Sql e) = of_sql e
of_footer (error.LeftOut start end why) = record { status = NotRead; fault = in_text start end (reason_of why) }
of_footer (error.Stats e) = of_stats e
