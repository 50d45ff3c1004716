-- The computer's own names for cells.
use Rattle.std.specs.Prelude.{ℕ, Bool, true, false, List, [], ◌∷◌, Option, Some, None, find, codes}
use Rattle.std.specs.Str.{bytes_eq}
use Rattle.agc_store.specs.Places.{a_cell, l_cell, q_cell, eb_cell, fb_cell, z_cell, bb_cell, zero_cell}
use Rattle.agc_store.specs.Places.{zrupt_cell, brupt_cell, cyr_cell, sr_cell, cyl_cell, edop_cell}
use Rattle.agc_store.specs.Places.{time1_cell, time2_cell, time3_cell, time4_cell, time5_cell}
use Rattle.agc_store.specs.Places.{time6_cell, inlink_cell}
use Rattle.agc_listing.specs.declared.location.Location.{Location}
use Rattle.agc_listing.specs.declared.location.Location.TheVariants as location
use Rattle.agc_symbols.specs.declared.register.Register.{Register}
use Rattle.agc_symbols.specs.declared.register.Register.TheVariants as register

-- the computer's own names
unfoldable pub register_name : Register → List ℕ
register_name register.A = codes "A"
register_name register.L = codes "L"
register_name register.Q = codes "Q"
register_name register.Eb = codes "EB"
register_name register.Ebank = codes "EBANK"
register_name register.Fb = codes "FB"
register_name register.Fbank = codes "FBANK"
register_name register.Z = codes "Z"
register_name register.Bb = codes "BB"
register_name register.Bbank = codes "BBANK"
register_name register.Zero = codes "ZERO"
register_name register.Arupt = codes "ARUPT"
register_name register.Lrupt = codes "LRUPT"
register_name register.Qrupt = codes "QRUPT"
register_name register.Zrupt = codes "ZRUPT"
register_name register.Bbrupt = codes "BBRUPT"
register_name register.Brupt = codes "BRUPT"
register_name register.Cyr = codes "CYR"
register_name register.Sr = codes "SR"
register_name register.Cyl = codes "CYL"
register_name register.Edop = codes "EDOP"
register_name register.Time2 = codes "TIME2"
register_name register.Time1 = codes "TIME1"
register_name register.Time3 = codes "TIME3"
register_name register.Time4 = codes "TIME4"
register_name register.Time5 = codes "TIME5"
register_name register.Time6 = codes "TIME6"
register_name register.Cdux = codes "CDUX"
register_name register.Cduy = codes "CDUY"
register_name register.Cduz = codes "CDUZ"
register_name register.Pipax = codes "PIPAX"
register_name register.Pipay = codes "PIPAY"
register_name register.Pipaz = codes "PIPAZ"
register_name register.Inlink = codes "INLINK"
register_name register.Rnrad = codes "RNRAD"

-- the registers of the banks have short names too, which sources do not have
abbrev pub is_short : Register → Bool
is_short register.Eb = true
is_short register.Fb = true
is_short register.Bb = true
is_short r = false

-- their cells
unfoldable pub register_cell : Register → ℕ
register_cell register.A = a_cell
register_cell register.L = l_cell
register_cell register.Q = q_cell
register_cell register.Eb = eb_cell
register_cell register.Ebank = eb_cell
register_cell register.Fb = fb_cell
register_cell register.Fbank = fb_cell
register_cell register.Z = z_cell
register_cell register.Bb = bb_cell
register_cell register.Bbank = bb_cell
register_cell register.Zero = zero_cell
register_cell register.Arupt = 0o10
register_cell register.Lrupt = 0o11
register_cell register.Qrupt = 0o12
register_cell register.Zrupt = zrupt_cell
register_cell register.Bbrupt = 0o16
register_cell register.Brupt = brupt_cell
register_cell register.Cyr = cyr_cell
register_cell register.Sr = sr_cell
register_cell register.Cyl = cyl_cell
register_cell register.Edop = edop_cell
register_cell register.Time2 = time2_cell
register_cell register.Time1 = time1_cell
register_cell register.Time3 = time3_cell
register_cell register.Time4 = time4_cell
register_cell register.Time5 = time5_cell
register_cell register.Time6 = time6_cell
register_cell register.Cdux = 0o32
register_cell register.Cduy = 0o33
register_cell register.Cduz = 0o34
register_cell register.Pipax = 0o37
register_cell register.Pipay = 0o40
register_cell register.Pipaz = 0o41
register_cell register.Inlink = inlink_cell
register_cell register.Rnrad = 0o46

unfoldable pub all_registers : List Register
all_registers =
    register.A ∷ register.L ∷ register.Q ∷ register.Eb ∷ register.Ebank ∷ register.Fb ∷ register.Fbank ∷ register.Z ∷
    register.Bb ∷ register.Bbank ∷ register.Zero ∷ register.Arupt ∷ register.Lrupt ∷ register.Qrupt ∷
    register.Zrupt ∷ register.Bbrupt ∷ register.Brupt ∷ register.Cyr ∷ register.Sr ∷ register.Cyl ∷
    register.Edop ∷ register.Time2 ∷ register.Time1 ∷ register.Time3 ∷ register.Time4 ∷
    register.Time5 ∷ register.Time6 ∷ register.Cdux ∷ register.Cduy ∷ register.Cduz ∷
    register.Pipax ∷ register.Pipay ∷ register.Pipaz ∷ register.Inlink ∷ register.Rnrad ∷ []

unfoldable pub register_named : List ℕ → Option Register
register_named name = find (λ r. bytes_eq (register_name r) name) all_registers

abbrev pub cell_of_own : Option Register → Option Location
cell_of_own (Some r) = Some (location.Erasable (register_cell r))
cell_of_own None = None

-- the cell with this name of the computer's own
unfoldable pub own_location : List ℕ → Option Location
own_location name = cell_of_own (register_named name)
