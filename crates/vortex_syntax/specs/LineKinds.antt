-- The words that begin a line.
use Rattle.std.specs.Prelude.{ℕ, List, Option, None, Some, codes, if◌then◌else◌}
use Rattle.std.specs.Str.{bytes_eq}
use Rattle.vortex_syntax.specs.declared.line_kind.LineKind.{LineKind}
use Rattle.vortex_syntax.specs.declared.line_kind.LineKind.TheVariants as kind

-- the kind of line that a word begins
abbrev pub kind_of : List ℕ → Option LineKind
kind_of word =
    if bytes_eq word (codes "row") then Some kind.Row else (
    if bytes_eq word (codes "stat") then Some kind.Stat else (
    if bytes_eq word (codes "part") then Some kind.Part else (
    if bytes_eq word (codes "join") then Some kind.Join else (
    if bytes_eq word (codes "column") then Some kind.Column else (
    if bytes_eq word (codes "where") then Some kind.Where else None)))))
