use Rattle.std.proofs.Common.{refl}
use Rattle.agc_diff.specs.declared.observed.comparison.ObservedComparison.{ObservedComparison}
use Rattle.agc_diff.proofs.Reported.{before_fits, law_reported, pairs_report, part_reported}
use Rattle.agc_diff.proofs.observed.runs.compare_shown.Goals as goal

pub returns : goal.returns
returns g c =
    let h = c.in_ok-common.ensures in
    let reported : ObservedComparison = record {
      what = c.args.what;
      count = c.in_ok-common.common.count;
      skew = c.in_ok-common.common.skew;
      before = c.in_ok-to_vec.field-0;
      divergence = c.in_ok-common.divergence;
    } in
    let pairs = pairs_report c.args.what _ _ _ _ _ reported h refl refl c.in_ok-to_vec.ensures in
    let part = part_reported _ _ _ reported.count reported.divergence h.count h.part in
    record {
      law = law_reported reported.count _ _ reported.divergence pairs.alike part;
      compared = refl;
      pairs = pairs;
      divergence = part;
      fits = record {
        before = before_fits h.pairs _ _ c.in_ok-to_vec.ensures h.last_ones h.fits;
        divergence = h.part_fits;
      };
    }
