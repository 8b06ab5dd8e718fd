-- A map that is given waivers one by one has the first that stands for each site.
use Rattle.std.proofs.Common.{◌≡◌, ◌∙◌, ℕ, ◌<◌, ◌+◌, ◌^◌, Bool, true, false, cond, List, [], ◌∷◌, Option, Some, None, length, drop, get_or, refl, ap, sym, subst}
use Rattle.std.specs.Prelude.{ℤ, ◌&&◌, bytes_eq, find, is_some, option_map, if◌then◌else◌}
use Rattle.std.specs.Option.{option_or}
use Rattle.std.proofs.lemmas.List.{drop_more}
use Rattle.std.proofs.lemmas.Slice.Eq.{bytes_eq-Decides}
use Rattle.name_map.specs.Values.{Values, entered, no_values, with_value}
use Rattle.desk_tables.specs.declared.rows.WaiverId.{WaiverId}
use Rattle.desk_tables.specs.declared.rows.WaiverRow.{WaiverRow}
use Rattle.desk_rulings.specs.Index.{row_subject, site_subject}
use Rattle.desk_rulings.specs.Rulings.{Site, covers, is_for, standing_in, stands}
use Rattle.desk_rulings.proofs.Subjects.{row_tells}

-- what the map has, and else the first of the waivers that are left, is the first of all
abbrev pub Leads : Values (WaiverId × ℤ) → ℤ → List WaiverRow → List WaiverRow → Type 0
Leads values today left rows =
    (site : Site) → site.key.at < 2 ^ 32
    → option_or (values (site_subject site)) (standing_in today left site) ≡ standing_in today rows site

or_none : {V : Type 0} (it : Option V) → option_or it None ≡ it
or_none None = refl
or_none (Some value) = refl

-- the answer of a waiver and those behind it, by whether it covers
first_of : {A B : Type 0} (f : A → B) (does : Bool) (one : A) (rest : Option A) → option_map f (cond does (Some one) rest) ≡ cond does (Some (f one)) (option_map f rest)
first_of f true one rest = refl
first_of f false one rest = refl

applied : {V : Type 0} (does : Bool) (f g : Values V) (name : List ℕ) → (if does then f else g) name ≡ cond does (f name) (g name)
applied true f g name = refl
applied false f g name = refl

-- one waiver is entered, under a name that is the one that is looked up or isn't
stepped : {V : Type 0} (is : Bool) (held found : Option V) (value : V) (rest : Option V) → (is ≡ true → held ≡ found) → option_or (cond (is_some held) found (if is then Some value else found)) rest ≡ option_or found (cond is (Some value) rest)
stepped true None None value rest same = refl
stepped true None (Some it) value rest same = absurd (let e : None ≡ Some it = same refl in cc)
stepped true (Some one) None value rest same = absurd (let e : Some one ≡ None = same refl in cc)
stepped true (Some one) (Some it) value rest same = refl
stepped false None found value rest same = refl
stepped false (Some one) found value rest same = refl

value_of : WaiverRow → WaiverId × ℤ
value_of row = (row.id, row.last_day)

covered : (today : ℤ) (row : WaiverRow) (site : Site) → stands today row ≡ true → covers today site row ≡ is_for site row
covered today row site does = ap (λ it. it && is_for site row) does

uncovered : (today : ℤ) (row : WaiverRow) (site : Site) → stands today row ≡ false → covers today site row ≡ false
uncovered today row site doesnt = ap (λ it. it && is_for site row) doesnt

pub leads_none : (today : ℤ) (rows : List WaiverRow) → Leads no_values today rows rows
leads_none today rows = λ site small. refl

-- past a waiver that doesn't stand
pub leads_past : (values : Values (WaiverId × ℤ)) (today : ℤ) (row : WaiverRow) (left rows : List WaiverRow) → stands today row ≡ false → Leads values today (row ∷ left) rows → Leads values today left rows
leads_past values today row left rows doesnt leads = λ site small.
    ap (λ it. option_or (values (site_subject site)) (option_map (λ one. (one.id, one.last_day)) (cond it (Some row) (find (covers today site) left)))) (sym (uncovered today row site doesnt))
    ∙ leads site small

-- over a waiver that stands
pub leads_on : (values : Values (WaiverId × ℤ)) (today : ℤ) (row : WaiverRow) (left rows : List WaiverRow) → stands today row ≡ true → row.at < 2 ^ 32 → Leads values today (row ∷ left) rows → Leads (entered values (row_subject row) (row.id, row.last_day)) today left rows
leads_on values today row left rows does small leads = λ site small'.
    let name : List ℕ = row_subject row in
    let other : List ℕ = site_subject site in
    let value : WaiverId × ℤ = (row.id, row.last_day) in
    let rest : Option (WaiverId × ℤ) = standing_in today left site in
    let same : bytes_eq name other ≡ true → values name ≡ values other = λ is. ap values ((bytes_eq-Decides name other).0 is) in
    let told : bytes_eq name other ≡ covers today site row = row_tells row site small small' ∙ sym (covered today row site does) in
    ap (λ it. option_or it rest) (applied (is_some (values name)) values (with_value values name value) other)
    ∙ stepped (bytes_eq name other) (values name) (values other) value rest same
    ∙ ap (λ it. option_or (values other) (cond it (Some value) rest)) told
    ∙ ap (option_or (values other)) (sym (first_of (λ one. (one.id, one.last_day)) (covers today site row) row (find (covers today site) left)))
    ∙ leads site small'

pub leads_all : (values : Values (WaiverId × ℤ)) (today : ℤ) (rows : List WaiverRow) → Leads values today [] rows → (site : Site) → site.key.at < 2 ^ 32 → values (site_subject site) ≡ standing_in today rows site
leads_all values today rows leads site small = sym (or_none (values (site_subject site))) ∙ leads site small

-- a loop's step over a waiver that stands
pub leads_then : (values values' : Values (WaiverId × ℤ)) (today : ℤ) (rows : List WaiverRow) (place : ℕ) (row : WaiverRow) (name : List ℕ) → place < length rows → row ≡ get_or rows place row → stands today row ≡ true → row.at < 2 ^ 32 → name ≡ row_subject row → values' ≡ entered values name (row.id, row.last_day) → Leads values today (drop place rows) rows → Leads values' today (drop (place + 1) rows) rows
leads_then values values' today rows place row name inside read does small is made leads =
    let left : drop place rows ≡ row ∷ drop (place + 1) rows = drop_more rows place row inside ∙ ap (λ it. it ∷ drop (place + 1) rows) (sym read) in
    let before : Leads values today (row ∷ drop (place + 1) rows) rows = subst (λ (it : List WaiverRow). Leads values today it rows) left leads in
    let entered_is : entered values (row_subject row) (row.id, row.last_day) ≡ values' = ap (λ it. entered values it (row.id, row.last_day)) (sym is) ∙ sym made in
    subst (λ (it : Values (WaiverId × ℤ)). Leads it today (drop (place + 1) rows) rows) entered_is
    (leads_on values today row (drop (place + 1) rows) rows does small before)

-- and over one that doesn't
pub leads_else : (values : Values (WaiverId × ℤ)) (today : ℤ) (rows : List WaiverRow) (place : ℕ) (row : WaiverRow) → place < length rows → row ≡ get_or rows place row → stands today row ≡ false → Leads values today (drop place rows) rows → Leads values today (drop (place + 1) rows) rows
leads_else values today rows place row inside read doesnt leads =
    let left : drop place rows ≡ row ∷ drop (place + 1) rows = drop_more rows place row inside ∙ ap (λ it. it ∷ drop (place + 1) rows) (sym read) in
    leads_past values today row (drop (place + 1) rows) rows doesnt (subst (λ (it : List WaiverRow). Leads values today it rows) left leads)
