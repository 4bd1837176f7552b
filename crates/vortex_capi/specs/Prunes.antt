-- What a caller asks to be pruned, and what is answered.
use Rattle.std.specs.Prelude.{◌≡◌, ◌≢◌, ℕ, ◌==◌, ◌⊎◌, false, List, [], Option, Some, Result, Ok, Err, IfOk, IsOk, IsTrue, if◌then◌else◌, length, map}
use Rattle.vortex_base.specs.Data.Scopes.{Named}
use Rattle.vortex_expr.specs.Meanings.Fitting.{fits_scope}
use Rattle.vortex_expr.specs.Trees.Tree.{Place, Tree, is_plain}
use Rattle.vortex_capi.specs.Nesting.Halves.{halved}
use Rattle.vortex_normal.specs.Groups.{normal}
use Rattle.vortex_predicates.specs.Pruning.{FindsNoFewerWhole, IsRight, Pruning, SkipsNoFewer, SkipsUnsatisfiable, is_within, skip_proof, whole_proof}
use Rattle.vortex_prune.specs.Binding.PartAnswers.{told_values}
use Rattle.vortex_zone_map.specs.Zone.{ZoneData, zones_fit}
use Rattle.vortex_prune.specs.Scanning.Selection.{places_where, proves_of}
use Rattle.vortex_prune.specs.Scanning.ZoneScans.{AreRowVerdicts, IsSoundPruning}
use Rattle.vortex_zone_map.specs.ZoneMaps.{MapData}
use Rattle.vortex_prune.specs.declared.scan.verdict.Verdict.{Verdict}
use Rattle.vortex_prune.specs.declared.scan.verdict.Verdict.TheVariants.{Skipped, Tested, Whole}
use Rattle.vortex_rewrite.specs.Rewriting.Proof.{is_open}
use Rattle.vortex_rewrite.specs.Rewriting.ReadOnce.{has_disjoint_ands}
use Rattle.vortex_capi.specs.declared.fault.Fault.{Fault}
use Rattle.vortex_capi.specs.declared.fault.Refusal.{Refusal}
use Rattle.vortex_capi.specs.declared.field.Field.{Field}
use Rattle.vortex_capi.specs.declared.statistic.Statistic.{Statistic}
use Rattle.vortex_capi.specs.declared.status.Status.TheVariants.{BadFlag, BadLength, BadLine, TooDeep}
use Rattle.vortex_capi.specs.Refusals.{followed}
use Rattle.vortex_capi.specs.Scopes.{max_depth, predicate_given, scope_given}
use Rattle.vortex_capi.specs.declared.logical.Kinds.TheVariants.{Plain}
use Rattle.vortex_capi.specs.Statuses.{nowhere, status_number}
use Rattle.vortex_capi.specs.Tables.{sources_given, zones_given}

-- ---- the answers

-- the answer for a zone by a falsifier and a satisfier: 1, to skip it, where the first is true of it by its statistics, else 2, for a whole one, where the second is, else 0, to read it
abbrev pub answer_by : (falsifier satisfier : Option (Tree Place)) → List Named → ZoneData → ℕ
answer_by f s scope zone =
    if proves_of f zone.rows (told_values scope zone) then 1 else (if proves_of s zone.rows (told_values scope zone) then 2 else 0)

-- that for a zone with a verdict
abbrev pub answer_of : Verdict → ℕ
answer_of Skipped = 1
answer_of Whole = 2
answer_of Tested = 0

-- these are the answers for the rows of a map's table, by a falsifier and a satisfier
pub record AreRowAnswers (f s : Option (Tree Place)) (m : MapData) (answers : List ℕ) : Type 0 where
  pub verdicts : List Verdict
  pub rows : AreRowVerdicts f s m verdicts
  pub long : length verdicts ≡ length m.rows
  pub told : answers ≡ map answer_of verdicts

-- a predicate with its proofs by built-in rules and by forms that a call's stack bears
abbrev pub proofs_of : Tree Place → Pruning
proofs_of p = record { predicate = p; falsifier = skip_proof [] (Some max_depth) p; satisfier = whole_proof [] (Some max_depth) p }

-- no column stands outside their placeholders, so memory alone may be refused when they are bound
pub record AreClosed (falsifier satisfier : Option (Tree Place)) : Type 0 where
  pub falsifies : is_open falsifier ≡ false
  pub satisfies : is_open satisfier ≡ false

-- the answer for each zone, in order
abbrev pub zone_answers : (falsifier satisfier : Option (Tree Place)) → List Named → List ZoneData → List ℕ
zone_answers f s scope zones = map (answer_by f s scope) zones

-- those of zones that may be refused
abbrev pub table_answers : (falsifier satisfier : Option (Tree Place)) → List Named → Result (List ZoneData) Refusal → Result (List ℕ) Refusal
table_answers f s scope given = followed given (λ zones. Ok (zone_answers f s scope zones))

-- the places of the zones with an answer, ascending
abbrev pub answered : ℕ → List ℕ → List ℕ
answered n answers = places_where (λ a. a == n) answers

-- ---- what is asked

-- zones of a scope, the predicate as it was given, and with its chains joined in halves, as its proofs are made of it
pub record Asked : Type 0 where
  pub scope : List Named
  pub zones : List ZoneData
  pub given : Tree Place
  pub pruned_by : Tree Place

-- the flags are none, or the one that once asked for the normal form
abbrev pub with_flags : ℕ → Result (Unit {0}) Refusal
with_flags flags = if flags == 0 then Ok tt else (if flags == 1 then Ok tt else Err (nowhere BadFlag))

-- there is a place for each answer, and no other
abbrev pub with_places : ℕ → List ℕ → Result (Unit {0}) Refusal
with_places n rows = if n == length rows then Ok tt else Err (nowhere BadLength)

-- the zones of a table, or the first of its statistics that is refused, or of their values zone by zone
abbrev pub zones_asked : List Named → List ℕ → List Statistic → Result (List ZoneData) Refusal
zones_asked scope rows stats = followed (sources_given scope (length rows) stats) (λ sources. zones_given scope sources rows)

-- of a predicate as it was given, and with its chains joined in halves
abbrev pub asked_of : List Named → List ℕ → List Statistic → (given p : Tree Place) → Result Asked Refusal
asked_of scope rows stats given p =
    followed (zones_asked scope rows stats) (λ zones. Ok (record { scope = scope; zones = zones; given = given; pruned_by = p }))

-- what the arguments ask for, or the first of them that is refused: the flags, the room for the answers, the scope, the predicate, the statistics, and their values zone by zone
abbrev pub asked : List Field → List ℕ → List Statistic → List ℕ → (flags room : ℕ) → Result Asked Refusal
asked fields rows stats text flags room =
    followed (with_flags flags) (λ taken. followed (with_places room rows) (λ there. followed (scope_given Plain fields) (λ scope.
    followed (predicate_given scope text) (λ e. asked_of scope rows stats e (halved e)))))

-- the sets of the zones fit the scope, the predicate is one over it, and the proofs are right
pub record IsWellAsked (a : Asked) : Type 0 where
  pub zones : IsTrue (zones_fit a.scope a.zones)
  pub plain : IsTrue (is_plain a.given)
  pub fits : IsTrue (fits_scope a.given a.scope)
  pub joined : a.pruned_by ≡ halved a.given
  pub right : IsRight (proofs_of a.pruned_by)

-- ---- what a call says

-- each zone has the answer that its statistics prove under the predicate that is pruned by
abbrev pub answers_of : Asked → List ℕ
answers_of a = zone_answers (proofs_of a.pruned_by).falsifier (proofs_of a.pruned_by).satisfier a.scope a.zones

-- a refusal with its status and its place
abbrev pub IsToldAs : Refusal → ℕ → Fault → Type 0
IsToldAs r result fault = (result ≡ status_number r.status) × (fault ≡ r.fault)

-- why a call was refused but for memory; a predicate that is no expression may be refused as one that is too deep
abbrev pub IsRefused : Result Asked Refusal → ℕ → Fault → Type 0
IsRefused (Ok a) result fault = ⊥
IsRefused (Err r) result fault = IsToldAs r result fault ⊎ ((r ≡ nowhere BadLine) × IsToldAs (nowhere TooDeep) result fault)

-- what a call makes of the answers
pub record IsPruned (asked : Result Asked Refusal) (old : List ℕ) (result : ℕ) (new : List ℕ) (fault : Fault) : Type 0 where
  pub answered : result ≡ 0 → IfOk asked (λ a. new ≡ answers_of a)
  pub answers : result ≡ 0 → IsOk asked
  pub unchanged : result ≢ 0 → new ≡ old
  pub refused : result ≢ 0 → result ≢ 4 → IsRefused asked result fault

-- whatever rows stand in a zone of which its statistics are true: none satisfies the predicate as it was given where the answer is 1, and each does where it is 2
abbrev pub IsSound : List ℕ → Asked → Type 0
IsSound answers a = IsSoundPruning a.given a.scope a.zones (answered 1 answers) (answered 2 answers)

-- each zone has the answer 1 that a form's own proofs skip, and each that they find whole has 1 or 2
pub record FindsNoFewer (form : Tree Place) (answers : List ℕ) (a : Asked) : Type 0 where
  pub skipped : SkipsNoFewer [] form a.scope a.zones (answered 1 answers)
  pub whole : FindsNoFewerWhole [] form a.scope a.zones (answered 1 answers) (answered 2 answers)

-- so of the predicate that the proofs are made of, and of its normal form unless that is too deep
pub record IsNoFewer (answers : List ℕ) (a : Asked) : Type 0 where
  pub own : FindsNoFewer a.pruned_by answers a
  pub form : IsTrue (is_within (Some max_depth) (normal a.pruned_by)) → FindsNoFewer (normal a.pruned_by) answers a

-- the answer is 1 if no values within a zone's bounds satisfy the predicate as it was given, wherever they are known and in order: where its ANDs are apart, or those of its normal form and that isn't too deep
pub record IsComplete (answers : List ℕ) (a : Asked) : Type 0 where
  pub own : IsTrue (has_disjoint_ands a.given) → SkipsUnsatisfiable a.given a.zones (answered 1 answers)
  pub form : IsTrue (is_within (Some max_depth) (normal a.pruned_by)) → IsTrue (has_disjoint_ands (normal a.pruned_by)) → SkipsUnsatisfiable a.given a.zones (answered 1 answers)
