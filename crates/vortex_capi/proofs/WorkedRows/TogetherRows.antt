-- Worked rows: the zones of one table as one chunk, each case by computation.
use Rattle.std.proofs.Common.{◌≡◌, [], ◌∷◌, Ok, Err, refl}
use Rattle.vortex_capi.specs.declared.status.Status.TheVariants.{BadKind, BadKnown, BadLength, BadStat}
use Rattle.vortex_capi.specs.Merges.{together}
use Rattle.vortex_capi.specs.Statuses.{at_entry, in_column, nowhere}
use Rattle.vortex_capi.proofs.WorkedRows.TableRows.{told}

-- of no zones nothing is known, and of one what is told of it
none : together 2 0 0 (told 0 3 [] [] ∷ told 0 4 [] [] ∷ []) ≡ Ok ((0, 0 ∷ []) ∷ (0, 0 ∷ []) ∷ [])
none = refl

one : together 2 0 1 (told 0 3 (2 ∷ []) (5 ∷ []) ∷ []) ≡ Ok ((2, 5 ∷ []) ∷ [])
one = refl

-- the greatest value stands in the first zone, in the second and in the third
greatest_first : together 2 0 3 (told 0 3 (1 ∷ 1 ∷ 1 ∷ []) (9 ∷ 7 ∷ 6 ∷ []) ∷ []) ≡ Ok ((1, 9 ∷ []) ∷ [])
greatest_first = refl

greatest_second : together 2 0 3 (told 0 3 (1 ∷ 1 ∷ 1 ∷ []) (5 ∷ 7 ∷ 6 ∷ []) ∷ []) ≡ Ok ((1, 7 ∷ []) ∷ [])
greatest_second = refl

greatest_third : together 2 0 3 (told 0 3 (1 ∷ 1 ∷ 2 ∷ []) (5 ∷ 7 ∷ 8 ∷ []) ∷ []) ≡ Ok ((2, 8 ∷ []) ∷ [])
greatest_third = refl

-- two statistics, of which the second isn't known of a zone
two_statistics : together 2 0 2 (told 0 3 (1 ∷ 1 ∷ []) (5 ∷ 7 ∷ []) ∷ told 0 4 (1 ∷ 0 ∷ []) (3 ∷ 1 ∷ []) ∷ []) ≡ Ok ((1, 7 ∷ []) ∷ (0, 0 ∷ []) ∷ [])
two_statistics = refl

-- zones follow one another in order: sorted ones stay sorted where the later begins above, and not the other way round
in_order : together 2 0 2 (told 0 1 (1 ∷ 1 ∷ []) (1 ∷ 1 ∷ []) ∷ told 0 3 (1 ∷ 1 ∷ []) (2 ∷ 4 ∷ []) ∷ told 0 4 (1 ∷ 1 ∷ []) (1 ∷ 3 ∷ []) ∷ []) ≡ Ok ((1, 1 ∷ []) ∷ (1, 4 ∷ []) ∷ (1, 1 ∷ []) ∷ [])
in_order = refl

out_of_order : together 2 0 2 (told 0 1 (1 ∷ 1 ∷ []) (1 ∷ 1 ∷ []) ∷ told 0 3 (1 ∷ 1 ∷ []) (4 ∷ 2 ∷ []) ∷ told 0 4 (1 ∷ 1 ∷ []) (3 ∷ 1 ∷ []) ∷ []) ≡ Ok ((2, 0 ∷ []) ∷ (1, 4 ∷ []) ∷ (1, 1 ∷ []) ∷ [])
out_of_order = refl

no_statistics : together 2 0 3 [] ≡ Ok []
no_statistics = refl

-- the refusals, in order: the kind, the numbers, the lengths, and the values zone by zone
bad_kind : together 17 0 1 (told 0 9 [] [] ∷ []) ≡ Err (nowhere BadKind)
bad_kind = refl

bad_stat : together 2 0 1 (told 0 3 [] [] ∷ told 0 9 [] [] ∷ []) ≡ Err (at_entry BadStat 1)
bad_stat = refl

too_long : together 2 0 1 (told 0 3 (3 ∷ []) (5 ∷ []) ∷ told 0 4 (1 ∷ []) (5 ∷ 6 ∷ []) ∷ []) ≡ Err (in_column 0 0 BadLength 1)
too_long = refl

bad_known : together 2 0 2 (told 0 3 (1 ∷ 1 ∷ []) (5 ∷ 7 ∷ []) ∷ told 0 4 (1 ∷ 3 ∷ []) (3 ∷ 1 ∷ []) ∷ []) ≡ Err (in_column 1 0 BadKnown 1)
bad_known = refl
