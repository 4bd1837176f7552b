use Rattle.std.proofs.Common.{◌≡◌, true, sym, subst}
use Rattle.vortex_stats.specs.declared.stat.Stat.{Stat}
use Rattle.vortex_stats.specs.declared.stat.Stat.TheVariants as stats
use Rattle.vortex_stats.specs.Merging.Combined.{intersection_of}
use Rattle.vortex_stats.specs.Merging.CombineSteps.{meeting, IsAnswerOrCopy}
use Rattle.vortex_stats.specs.Sets.Entries.{value_fits}
use Rattle.vortex_stats.specs.Precision.{precision_map}
use Rattle.vortex_stats.proofs.Merging.Combining.{point_intersection-truths}
use Rattle.vortex_stats.proofs.Bounds.DerivedOrder.{upper_intersection-read, lower_intersection-read, point_intersection-read}
use Rattle.vortex_stats.proofs.combine.met_value.Goals as goal

pub returns-in-IsConstant : goal.returns-in-IsConstant
returns-in-IsConstant c =
    let left = precision_map (λ v. v.now) c.args.left in
    let other = precision_map (λ v. v.now) c.args.other in
    let left_fits = subst (λ s. value_fits s c.args.dtype.now left ≡ true) c.in-IsConstant.is c.requires.left_fits in
    let other_fits = subst (λ s. value_fits s c.args.dtype.now other ≡ true) c.in-IsConstant.is c.requires.other_fits in
    subst (λ s. IsAnswerOrCopy (meeting s (intersection_of s left other)) c.combine_truths.result) (sym c.in-IsConstant.is)
    (subst (λ m. IsAnswerOrCopy (meeting stats.IsConstant m) c.combine_truths.result) (point_intersection-truths c.args.dtype.now left other left_fits other_fits) c.combine_truths.ensures)

pub returns-in-IsSorted : goal.returns-in-IsSorted
returns-in-IsSorted c =
    let left = precision_map (λ v. v.now) c.args.left in
    let other = precision_map (λ v. v.now) c.args.other in
    let left_fits = subst (λ s. value_fits s c.args.dtype.now left ≡ true) c.in-IsSorted.is c.requires.left_fits in
    let other_fits = subst (λ s. value_fits s c.args.dtype.now other ≡ true) c.in-IsSorted.is c.requires.other_fits in
    subst (λ s. IsAnswerOrCopy (meeting s (intersection_of s left other)) c.combine_truths-in-IsSorted.result) (sym c.in-IsSorted.is)
    (subst (λ m. IsAnswerOrCopy (meeting stats.IsSorted m) c.combine_truths-in-IsSorted.result) (point_intersection-truths c.args.dtype.now left other left_fits other_fits) c.combine_truths-in-IsSorted.ensures)

pub returns-in-IsStrictSorted : goal.returns-in-IsStrictSorted
returns-in-IsStrictSorted c =
    let left = precision_map (λ v. v.now) c.args.left in
    let other = precision_map (λ v. v.now) c.args.other in
    let left_fits = subst (λ s. value_fits s c.args.dtype.now left ≡ true) c.in-IsStrictSorted.is c.requires.left_fits in
    let other_fits = subst (λ s. value_fits s c.args.dtype.now other ≡ true) c.in-IsStrictSorted.is c.requires.other_fits in
    subst (λ s. IsAnswerOrCopy (meeting s (intersection_of s left other)) c.combine_truths-in-IsStrictSorted.result) (sym c.in-IsStrictSorted.is)
    (subst (λ m. IsAnswerOrCopy (meeting stats.IsStrictSorted m) c.combine_truths-in-IsStrictSorted.result) (point_intersection-truths c.args.dtype.now left other left_fits other_fits) c.combine_truths-in-IsStrictSorted.ensures)

pub returns-in-Max : goal.returns-in-Max
returns-in-Max c =
    let left = precision_map (λ v. v.now) c.args.left in
    let other = precision_map (λ v. v.now) c.args.other in
    subst (λ s. IsAnswerOrCopy (meeting s (intersection_of s left other)) c.combine_values.result) (sym c.in-Max.is)
    (subst (λ m. IsAnswerOrCopy (meeting stats.Max m) c.combine_values.result) (upper_intersection-read (λ v. v.now) c.args.left c.args.other) c.combine_values.ensures)

pub returns-in-Min : goal.returns-in-Min
returns-in-Min c =
    let left = precision_map (λ v. v.now) c.args.left in
    let other = precision_map (λ v. v.now) c.args.other in
    subst (λ s. IsAnswerOrCopy (meeting s (intersection_of s left other)) c.combine_values-in-Min.result) (sym c.in-Min.is)
    (subst (λ m. IsAnswerOrCopy (meeting stats.Min m) c.combine_values-in-Min.result) (lower_intersection-read (λ v. v.now) c.args.left c.args.other) c.combine_values-in-Min.ensures)

pub returns-in-Sum : goal.returns-in-Sum
returns-in-Sum c =
    let left = precision_map (λ v. v.now) c.args.left in
    let other = precision_map (λ v. v.now) c.args.other in
    subst (λ s. IsAnswerOrCopy (meeting s (intersection_of s left other)) c.combine_values-in-Sum.result) (sym c.in-Sum.is)
    (subst (λ m. IsAnswerOrCopy (meeting stats.Sum m) c.combine_values-in-Sum.result) (point_intersection-read (λ v. v.now) c.args.left c.args.other) c.combine_values-in-Sum.ensures)

pub returns-in-NullCount : goal.returns-in-NullCount
returns-in-NullCount c =
    let left = precision_map (λ v. v.now) c.args.left in
    let other = precision_map (λ v. v.now) c.args.other in
    subst (λ s. IsAnswerOrCopy (meeting s (intersection_of s left other)) c.combine_values-in-NullCount.result) (sym c.in-NullCount.is)
    (subst (λ m. IsAnswerOrCopy (meeting stats.NullCount m) c.combine_values-in-NullCount.result) (upper_intersection-read (λ v. v.now) c.args.left c.args.other) c.combine_values-in-NullCount.ensures)

pub returns-in-UncompressedSizeInBytes : goal.returns-in-UncompressedSizeInBytes
returns-in-UncompressedSizeInBytes c =
    let left = precision_map (λ v. v.now) c.args.left in
    let other = precision_map (λ v. v.now) c.args.other in
    subst (λ s. IsAnswerOrCopy (meeting s (intersection_of s left other)) c.combine_values-in-UncompressedSizeInBytes.result) (sym c.in-UncompressedSizeInBytes.is)
    (subst (λ m. IsAnswerOrCopy (meeting stats.UncompressedSizeInBytes m) c.combine_values-in-UncompressedSizeInBytes.result) (upper_intersection-read (λ v. v.now) c.args.left c.args.other) c.combine_values-in-UncompressedSizeInBytes.ensures)

pub returns-in-NaNCount : goal.returns-in-NaNCount
returns-in-NaNCount c =
    let left = precision_map (λ v. v.now) c.args.left in
    let other = precision_map (λ v. v.now) c.args.other in
    subst (λ s. IsAnswerOrCopy (meeting s (intersection_of s left other)) c.combine_values-in-NaNCount.result) (sym c.in-NaNCount.is)
    (subst (λ m. IsAnswerOrCopy (meeting stats.NaNCount m) c.combine_values-in-NaNCount.result) (upper_intersection-read (λ v. v.now) c.args.left c.args.other) c.combine_values-in-NaNCount.ensures)
