-- What a module declares without faults describes the signals of the design.
use Rattle.std.specs.Prelude.{Bool, ℕ, zero, suc, ◌+◌, ◌-◌, ◌≤◌, ◌<◌, min, List, [], ◌∷◌, ◌++◌, length, Option, None, Some}
use Rattle.std.specs.List.{slice_get}
use Rattle.std.specs.Option.{option_map}
use Rattle.std.proofs.Common.{◌≡◌, ◌∙◌, ap, sym, arith}
use Rattle.std.proofs.lemmas.Option.{slice_get-map}
use Rattle.rtl_tree.specs.TreeModule.{Circuit}
use Rattle.rtl_flat.specs.declared.signal.Signal.{Signal}
use Rattle.rtl_flat.specs.Signs.{width_in}
use Rattle.rtl_flat.specs.Sizing.{low_in, signed_in}
use Rattle.elab_scope.specs.declared.known.Known.{Known}
use Rattle.elab_scope.specs.declared.known.Known.TheVariants as known
use Rattle.elab_scope.specs.declared.known.Shape.{Shape}
use Rattle.elab_scope.specs.Names.{Meanings, numbers_in}
use Rattle.elab_scope.specs.Sources.{Describes, IsDescribed}
use Rattle.elab_scope.proofs.Sound.{nil_left, nil_right}
use Rattle.elab_items.specs.declared.reach.Reach.{Reach}
use Rattle.elab_items.specs.declared.reach.Reach.TheVariants.{Scalar, Bits, Hidden}
use Rattle.elab_items.specs.Claims.{all_claim_faults, all_direction_faults, no_course}
use Rattle.elab_items.specs.Declarations.{Declaration, declarations}
use Rattle.elab_items.specs.Drafts.{all_draft_faults, no_draft}
use Rattle.elab_items.specs.Reaches.{shape_of}
use Rattle.elab_items.specs.Rosters.{Listing, limit_faults, no_roster}
use Rattle.elab_items.specs.Scopes.{all_name_faults, claims_of, declaration_faults, draft_of, faults_after, listings_of, roster_from, roster_of, scope_of}
use Rattle.elab_items.specs.Settings.{Settings}
use Rattle.elab_items.specs.Signals.{Home, low_of, signal_in, signals_in, width_of}
use Rattle.elab_items.proofs.Lawful.{IsLawful, all_lawful, draft_lawful}
use Rattle.elab_items.proofs.Places.{AreWide, IsListed, Stands, all_stand, few_signals, within}

-- a signal at a place of a design
pub record IsThere (signals : List Signal) (i : ℕ) (s : Signal) : Type 0 where
  pub inside : i < length signals
  pub width : width_in signals i ≡ s.width
  pub signed : signed_in signals i ≡ s.signed
  pub low : low_in signals i ≡ s.low

first_there : (mid behind : List Signal) (i : ℕ) (s : Signal) → slice_get mid i ≡ Some s → IsThere (mid ++ behind) i s
first_there [] behind i s h = absurd cc
first_there (x ∷ mid) behind zero s h =
    let same : x ≡ s = cc in
    record { inside = omega arith; width = ap (λ s. s.width) same; signed = ap (λ s. s.signed) same; low = ap (λ s. s.low) same }
first_there (x ∷ mid) behind (suc i) s h =
    let rest : IsThere (mid ++ behind) i s = first_there mid behind i s h in
    let inside : i < length (mid ++ behind) = rest.inside in
    record { inside = omega arith; width = rest.width; signed = rest.signed; low = rest.low }

there_behind : (before rest : List Signal) (i j : ℕ) (s : Signal) → j ≡ length before + i → IsThere rest i s → IsThere (before ++ rest) j s
there_behind [] rest i j s is h =
    let same : j ≡ i = omega arith in
    rw same h
there_behind (x ∷ before) rest i zero s is h = absurd (omega arith)
there_behind (x ∷ before) rest i (suc j) s is h =
    let less : j ≡ length before + i = omega arith in
    let there : IsThere (before ++ rest) j s = there_behind before rest i j s less h in
    let inside : j < length (before ++ rest) = there.inside in
    record { inside = omega arith; width = there.width; signed = there.signed; low = there.low }

-- the shape of a range that fits
record Fits (shape : Shape) (signed : Bool) (reach : Reach) : Type 0 where
  pub width : width_of reach ≡ shape.width
  pub sign : signed ≡ shape.signed
  pub low : low_of reach ≡ shape.low
  pub some : 1 ≤ shape.width
  pub most : shape.width ≤ 128

shape_fits : (shape : Shape) (signed : Bool) (reach : Reach) → Some shape ≡ shape_of signed reach → IsLawful 128 reach → Fits shape signed reach
shape_fits shape signed Scalar is own =
    let same : shape ≡ record { width = 1; signed = signed; low = 0 } = cc in
    record {
      width = sym (ap (λ s. s.width) same);
      sign = sym (ap (λ s. s.signed) same);
      low = sym (ap (λ s. s.low) same);
      some = rw same (omega arith);
      most = rw same (omega arith);
    }
shape_fits shape signed (Bits width low) is own =
    let same : shape ≡ record { width = width; signed = signed; low = low } = cc in
    record {
      width = sym (ap (λ s. s.width) same);
      sign = sym (ap (λ s. s.signed) same);
      low = sym (ap (λ s. s.low) same);
      some = rw same own.0;
      most = rw same own.1;
    }
shape_fits shape signed Hidden is own = absurd own

no_shape : (signed : Bool) (reach : Reach) → None ≡ shape_of signed reach → IsLawful 128 reach → ⊥
no_shape signed Scalar is own = cc
no_shape signed (Bits width low) is own = cc
no_shape signed Hidden is own = own

described : (base : ℕ) (home : Home) (before behind : List Signal) (listings : List Listing) (name : List ℕ) (k : Option Known) → base ≡ length before → length listings ≤ 20000 - base → IsListed listings name k → IsDescribed base (before ++ (signals_in home listings ++ behind)) k
described base home before behind listings name None is short h = tt
described base home before behind listings name (Some (known.Integer number)) is short h = tt
described base home before behind listings name (Some (known.Parameter number width signed)) is short h = h
described base home before behind listings name (Some (known.Signal number role None)) is short h =
    no_shape h.one.line.signed h.one.line.reach h.shape_is h.lawful
described base home before behind listings name (Some (known.Signal number role (Some shape))) is short h =
    let fits : Fits shape h.one.line.signed h.one.line.reach = shape_fits shape h.one.line.signed h.one.line.reach h.shape_is h.lawful in
    let inside : h.place < length listings = within listings h.place h.one h.is in
    let number_is : number ≡ min h.place 20000 = h.number_is in
    let place : base + number ≡ length before + h.place = omega arith in
    let got : slice_get (signals_in home listings) h.place ≡ Some (signal_in home h.one) =
    slice_get-map (signal_in home) listings h.place ∙ ap (option_map (signal_in home)) h.is in
    let there : IsThere (before ++ (signals_in home listings ++ behind)) (base + number) (signal_in home h.one) =
    there_behind before (signals_in home listings ++ behind) h.place (base + number) (signal_in home h.one) place (first_there (signals_in home listings) behind h.place (signal_in home h.one) got) in
    (there.inside, there.width ∙ fits.width, there.signed ∙ fits.sign, there.low ∙ fits.low, fits.some, fits.most)

-- the roster of a module without faults
stands : (settings : Settings) (base : ℕ) (c : Circuit) → declaration_faults settings base c ≡ [] → Stands (roster_of settings (declarations c)) × (length (listings_of settings c) ≤ 20000 - base)
stands settings base c h =
    let ds : List Declaration = declarations c in
    let draft : Meanings = draft_of settings ds in
    let first = all_draft_faults settings no_draft ds in
    let second = all_claim_faults (numbers_in draft) no_course ds in
    let third = all_direction_faults (claims_of draft ds) ds in
    let fourth = all_name_faults settings (roster_from draft ds).scope ds in
    let fifth = limit_faults base (roster_from draft ds).signals in
    let numbers : first ≡ [] = nil_left first (faults_after settings base draft ds) h in
    let later : second ++ third ++ fourth ++ fifth ≡ [] = nil_right first (faults_after settings base draft ds) h in
    let limit : fifth ≡ [] = nil_right (second ++ third ++ fourth) fifth later in
    let three : second ++ third ++ fourth ≡ [] = nil_left (second ++ third ++ fourth) fifth later in
    let two : second ++ third ≡ [] = nil_left (second ++ third) fourth three in
    let claims : second ≡ [] = nil_left second third two in (
      all_stand draft (claims_of draft ds) no_roster ds (draft_lawful settings no_draft ds numbers (λ name. tt) tt) (all_lawful (numbers_in draft) no_course ds claims (λ name. tt) tt) (record { names = λ name. tt; wide = tt }),
      few_signals base (roster_from draft ds).signals limit,
    )

-- where a module has no faults, what its names stand for describes the signals of the design: each number is that of
-- the module's signal, with its width, its sign and the number of its least significant bit
pub describes : (settings : Settings) (base : ℕ) (c : Circuit) (home : Home) (before behind : List Signal) → base ≡ length before → declaration_faults settings base c ≡ [] → Describes base (before ++ (signals_in home (listings_of settings c) ++ behind)) (scope_of settings c)
describes settings base c home before behind is h name =
    let all = stands settings base c h in
    described base home before behind (listings_of settings c) name (scope_of settings c name) is all.1 (all.0.names name)

reach_wide : (reach : Reach) → IsLawful 128 reach → (1 ≤ width_of reach) × (width_of reach ≤ 128)
reach_wide Scalar own = (omega arith, omega arith)
reach_wide (Bits width low) own = own
reach_wide Hidden own = absurd own

wide : (home : Home) (listings : List Listing) → AreWide listings → (i : ℕ) → i < length listings → (1 ≤ width_in (signals_in home listings) i) × (width_in (signals_in home listings) i ≤ 128)
wide home [] all i h = absurd (omega arith)
wide home (one ∷ others) all zero h = reach_wide one.line.reach all.0
wide home (one ∷ others) all (suc i) h =
    let less : i < length others = omega arith in
    wide home others all.1 i less

-- and each of its signals has 1 to 128 bits
pub have_bits : (settings : Settings) (base : ℕ) (c : Circuit) (home : Home) → declaration_faults settings base c ≡ [] → (i : ℕ) → i < length (listings_of settings c) → (1 ≤ width_in (signals_in home (listings_of settings c)) i) × (width_in (signals_in home (listings_of settings c)) i ≤ 128)
have_bits settings base c home h i inside =
    let all = stands settings base c h in
    wide home (listings_of settings c) all.0.wide i inside

-- no more than the design may have
pub few_enough : (settings : Settings) (base : ℕ) (c : Circuit) → declaration_faults settings base c ≡ [] → length (listings_of settings c) ≤ 20000 - base
few_enough settings base c h = (stands settings base c h).1
