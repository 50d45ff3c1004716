use Rattle.std.proofs.Common.{refl}
use Rattle.agc_diff.proofs.Compared.{before_fits, cells_reported, common_reported, differing_cells_reported, end_reported, law_reported, met, divergence_fits, divergence_reported, same_cells, writes_fit, writes_reported}
use Rattle.agc_diff.proofs.Memories.{places_reported}
use Rattle.agc_diff.proofs.runs.compare.Goals as goal

pub returns : goal.returns
returns g c =
    let m = met _ _ _ _ _ _ _ c.in_ok-common.ensures in
    let divergence = divergence_reported _ _ _ _ _ _ _ _ c.in_ok-common.ensures c.in_ok-divergence.ensures in
    let left = end_reported _ _ c.in_ok-common.common _ _ _ _ m.reports.panel m.left_run c.in_ok-ends.ensures.left in
    let right = end_reported _ _ c.in_ok-common.common _ _ _ _ m.reports.panel m.right_run c.in_ok-ends.ensures.right in
    let left_cells = cells_reported _ _ _ c.store.ensures left.last in
    let right_cells = cells_reported _ _ _ c.store-2.ensures right.last in
    let write = writes_reported _ _ _ _ _ _ _ _ m c.in_ok-ends.ensures.write in
    let cells = differing_cells_reported _ _ _ _ _ left_cells right_cells c.in_ok-differing_cells.ensures.cells in
    record {
      law =
          law_reported
          (record {
            boundaries = c.in_ok-common.common.boundaries;
            writes = c.in_ok-common.common.writes;
            before = c.in_ok-to_vec.field-0;
            divergence = c.in_ok-divergence.divergence;
            write = c.in_ok-ends.ends.write;
            left = c.in_ok-ends.ends.left;
            right = c.in_ok-ends.ends.right;
            cells = c.in_ok-differing_cells.field-0;
          })
          _ _ _ _ divergence (same_cells _ _ _ _ _ left_cells right_cells c.in_ok-differing_cells.ensures.none);
      common = common_reported _ _ _ _ _ _ _ _ m refl refl c.in_ok-to_vec.ensures;
      divergence = divergence;
      write = write;
      left_end = left;
      right_end = right;
      fits = record {
        before = before_fits _ _ _ _ _ _ _ _ m c.in_ok-to_vec.ensures;
        divergence = divergence_fits _ _ _ _ _ _ _ _ c.in_ok-common.ensures c.in_ok-divergence.ensures;
        write = writes_fit _ _ _ write;
        cells = places_reported _ _ _ cells;
      };
      cells = cells;
    }
