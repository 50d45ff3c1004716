-- What in a profile always adds up, and leaves room for more.
use Rattle.std.specs.Prelude.{◌≡◌, ℕ, ◌+◌, ◌<◌, ◌^◌, List, length}
use Rattle.agc_store.specs.Places.{erasable_cells, fixed_places}
use Rattle.agc_profile.specs.Laws.{MakeUp}
use Rattle.agc_profile.specs.Number.{basic_count, extracode_count}
use Rattle.agc_profile.specs.Tally.{cycles_in, times_in}
use Rattle.agc_profile.specs.declared.profile.Profile.{Profile}
use Rattle.agc_profile.specs.declared.tally.Tally.{Tally}

-- two tables of known lengths that make up a whole
pub record Halves (size rest : ℕ) (table others : List Tally) (all : Tally) : Type 0 where
  pub length_is : length table ≡ size
  pub others_length : length others ≡ rest
  pub up : MakeUp table others all

-- The places of both memories make up all orders, and so do both kinds of opcodes, basic orders and extracodes.
abbrev pub ArePlaced : Profile → Type 0
ArePlaced c = Halves fixed_places erasable_cells c.fixed c.erasable c.orders

abbrev pub AreNamed : Profile → Type 0
AreNamed c = Halves basic_count extracode_count c.basics c.extracodes c.orders

abbrev pub AddsUp : Profile → Type 0
AddsUp c = ArePlaced c × AreNamed c

-- two tables of known lengths that have room for one more tally, wherever it is added
pub record Fits (size rest : ℕ) (table others : List Tally) (more : Tally) : Type 0 where
  pub length_is : length table ≡ size
  pub others_length : length others ≡ rest
  pub times : times_in table + times_in others + more.times < 2 ^ 64
  pub cycles : cycles_in table + cycles_in others + more.cycles < 2 ^ 64
