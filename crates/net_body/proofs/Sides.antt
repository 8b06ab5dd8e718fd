-- One item more of those that run side by side.
use Rattle.std.proofs.Common.{◌≡◌, ◌∙◌, ◌<◌, ◌≤◌, ◌+◌, ◌-◌, ℕ, zero, suc, List, [], ◌∷◌, drop, get_or, length, map, take, ap, subst, sym, arith}
use Rattle.std.specs.Prelude.{if◌then◌else◌}
use Rattle.rtl_bits.specs.declared.Bit.{Bit}
use Rattle.rtl_flat.specs.declared.act.CaseItem.{CaseItem}
use Rattle.rtl_flat.specs.declared.act.CaseKind.{CaseKind}
use Rattle.rtl_flat.specs.declared.signal.Signal.{Signal}
use Rattle.rtl_flat.specs.Expression.{tree}
use Rattle.rtl_flat.specs.Process.{action, body_of}
use Rattle.rtl_flat.specs.WellFormed.{IsBody}
use Rattle.rtl_scan.specs.Bodies.{branches_of}
use Rattle.rtl_scan.proofs.Labels.{left_at}
use Rattle.net_model.specs.declared.fill.Fill.{Fill}
use Rattle.net_model.specs.Block.{Maps, act_arms, acts, fresh, some_meets}
use Rattle.net_body.specs.declared.arms.Aside.{Aside}
use Rattle.net_body.specs.declared.mark.Mark.{Mark}
use Rattle.net_body.specs.Asides.{AreAside, HaveSums, IsBounded}
use Rattle.net_body.specs.Bodies.{AreBodies}
use Rattle.net_body.specs.Levels.{branch_levels, levels_of}
use Rattle.net_body.specs.Marks.{AreKept, maps}

pub body_at : (signals : List Signal) (items : List CaseItem) (i : ℕ) (item : CaseItem) → AreBodies signals (branches_of items) → i < length items → item ≡ get_or items i item → IsBody signals (body_of (map action item.body.items))
body_at signals [] i item h below is = absurd (omega (arith, below))
body_at signals (x ∷ items) zero item h below is =
    subst (λ (one : CaseItem). IsBody signals (body_of (map action one.body.items))) (sym is) h.0
body_at signals (x ∷ items) (suc i) item h below is =
    body_at signals items i item h.1 (omega (arith, below)) is

pub level_at : (items : List CaseItem) (i : ℕ) (item : CaseItem) → i < length items → item ≡ get_or items i item → levels_of (body_of (map action item.body.items)) ≤ branch_levels (branches_of items)
level_at [] i item below is = absurd (omega (arith, below))
level_at (x ∷ items) zero item below is =
    let same = ap (λ (one : CaseItem). levels_of (body_of (map action one.body.items))) is in omega (arith, same)
level_at (x ∷ items) (suc i) item below is =
    let rest = level_at items i item (omega (arith, below)) is in omega (arith, rest)

-- the items are run from the last on
pub arms_more : (ws : ℕ → ℕ) (f : Fill) (m : Maps) (kind : CaseKind) (selector : List Bit) (items : List CaseItem) (k : ℕ) (item : CaseItem) → k < length items → item ≡ get_or items (length items - 1 - k) item
    → act_arms ws f m kind selector (branches_of (drop (length items - (k + 1)) items))
    ≡ (if some_meets f m.now kind selector (map tree item.labels.items) then acts ws f (fresh m) (body_of (map action item.body.items)) ∷ act_arms ws f m kind selector (branches_of (drop (length items - k) items)) else act_arms ws f m kind selector (branches_of (drop (length items - k) items)))
arms_more ws f m kind selector items k item below is =
    let place = length items - 1 - k in
    let there : place < length items = omega (arith, below) in
    let here : length items - (k + 1) ≡ place = omega (arith, below) in
    let behind : place + 1 ≡ length items - k = omega (arith, below) in
    let F : List CaseItem → List Maps = λ xs. act_arms ws f m kind selector (branches_of xs) in
    ap (λ n. F (drop n items)) here ∙ ap F (left_at items place item there is) ∙ ap (λ n. F (item ∷ drop n items)) behind

-- what holds while the items run
abbrev pub Stands : List Signal → Maps → ℕ → List Maps → List (List Bit) → List Mark → List Aside → Type 0
Stands signals m n arms numbers marks room =
    AreKept signals numbers marks
    × (maps numbers marks ≡ fresh m)
    × AreAside m arms (take n room)
    × HaveSums numbers (take n room)
    × IsBounded m arms

pub stands_same : (signals : List Signal) (m : Maps) (n : ℕ) (arms arms' : List Maps) (numbers numbers' : List (List Bit)) (marks marks' : List Mark) (room room' : List Aside) → arms' ≡ arms → numbers' ≡ numbers → marks' ≡ marks → room' ≡ room → Stands signals m n arms numbers marks room → Stands signals m n arms' numbers' marks' room'
stands_same signals m n arms arms' numbers numbers' marks marks' room room' one two three four h =
    subst (λ (x : List Maps). Stands signals m n x numbers' marks' room') (sym one)
    (subst (λ (x : List (List Bit)). Stands signals m n arms x marks' room') (sym two)
    (subst (λ (x : List Mark). Stands signals m n arms numbers x room') (sym three)
    (subst (λ (x : List Aside). Stands signals m n arms numbers marks x) (sym four) h)))
