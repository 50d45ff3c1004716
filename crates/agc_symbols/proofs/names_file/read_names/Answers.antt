use Rattle.std.proofs.Common.{◌≤◌, length, arith}
use Rattle.std.proofs.lemmas.Result.{IfOk-weaker, IfErr-weaker}
use Rattle.agc_io.proofs.Whole.{of_all}
use Rattle.agc_symbols.specs.NamesFile.{AreNames}
use Rattle.agc_symbols.proofs.Refused.{names_refused}
use Rattle.agc_symbols.proofs.names_file.read_names.Goals as goal

pub returns-clause-names : goal.returns-clause-names
returns-clause-names g c =
    let read = rw c.as_slice.ensures.value at c.named_in.ensures.names in
    let few : length c.in-Ok.text.items ≤ 16777216 = omega (arith, c.in-Ok.text.ok.0, c.in-Ok.ensures.bound) in
    IfOk-weaker c.named_in.result _ _
    (λ names e. of_all _ _ c.in-Ok.text.items (λ text. AreNames text names) c.in-Ok.ensures.bytes c.in-Ok.ensures.end
    (record { short = few; read = e })) read

pub returns-clause-refused : goal.returns-clause-refused
returns-clause-refused g c =
    let refused = rw c.as_slice.ensures.value at c.named_in.ensures.refused in
    let few : length c.in-Ok.text.items ≤ 16777216 = omega (arith, c.in-Ok.text.ok.0, c.in-Ok.ensures.bound) in
    IfErr-weaker c.named_in.result _ _
    (λ t e. names_refused _ _ c.in-Ok.text.items t c.in-Ok.ensures.bytes c.in-Ok.ensures.end few e) refused
