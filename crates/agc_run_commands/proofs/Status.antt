-- How a subcommand ends by its status alone.
use Rattle.std.proofs.Common.{◌≡◌, ◌⊎◌, inl, inr, ℕ, List, Option, arith}
use Rattle.std.proofs.KnownBytes.{Keeps-refl}
use Rattle.agc_run_commands.specs.Ended.{IsEnded}

-- with status 0 or 3, if nothing was written to standard error
pub written_or_failed : (ended : ℕ) (out_old out_new err : Option (List ℕ)) → (ended ≡ 0) ⊎ (ended ≡ 3) → IsEnded ended out_old out_new err err
written_or_failed ended out_old out_new err (inl e) = record {
  status = omega (arith, e);
  silent = λ low. Keeps-refl _;
  nothing = λ two. absurd (omega (arith, e, two));
}
written_or_failed ended out_old out_new err (inr e) = record {
  status = omega (arith, e);
  silent = λ low. Keeps-refl _;
  nothing = λ two. absurd (omega (arith, e, two));
}
