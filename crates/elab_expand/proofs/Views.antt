-- What constructs with vectors are.
use Rattle.std.specs.Prelude.{ℕ, Option, Vec, map}
use Rattle.std.specs.Option.{option_map}
use Rattle.std.specs.declared.alloc.Global.{Global}
use Rattle.std.proofs.Common.{◌≡◌, ◌∙◌, ap, refl}
use Rattle.rtl_tree.specs.TreeExpr.{formula, identifier}
use Rattle.rtl_tree.specs.TreeWritten.{Block, choice, choice_row, item_row, made, written_item}
use Rattle.rtl_tree.specs.declared.tree.expr.Expr.{Expr}
use Rattle.rtl_tree.specs.declared.tree.names.Name.{Name}
use Rattle.rtl_tree.specs.declared.tree.written.GenerateBlock.{GenerateBlock}
use Rattle.rtl_tree.specs.declared.tree.written.GenerateBlock.TheVariants as block
use Rattle.rtl_tree.specs.declared.tree.written.GenerateChoice.{GenerateChoice}
use Rattle.rtl_tree.specs.declared.tree.written.WrittenItem.{WrittenItem}
use Rattle.rtl_tree.specs.declared.tree.written.WrittenItem.TheVariants as item
use Rattle.rtl_tree.proofs.TreeViews.{generate_block_is, generate_case_is, region_is}
use Rattle.elab_items.specs.Settings.{Settings}
use Rattle.std.specs.List.{slice_get}
use Rattle.std.specs.Prelude.{zero, suc, List, [], ◌∷◌, None, Some}
use Rattle.elab_items.specs.Settings.{no_settings}
use Rattle.elab_expand.specs.Openings.{opened_at}
use Rattle.elab_expand.specs.Expansions.{Opening, block_component, case_opened, entering, head_faults, judging, labelling, leaving, loop_label, looping, opened_block, opened_body, opened_choices, opened_item, opened_items, outcome_in, unless_faulty, with_outcome}

pub region_opened : (settings : Settings) (o : Opening) (at : ℕ) (items : Vec WrittenItem Global) (w : WrittenItem) → w ≡ item.Region at items → opened_item settings (written_item w) o ≡ opened_items settings (item_row (map written_item items.items)) o
region_opened settings o at items w is =
    ap (λ w. opened_item settings (written_item w) o) is ∙ ap (λ t. opened_item settings t o) (region_is at items)

pub case_is_opened : (settings : Settings) (o : Opening) (at : ℕ) (selector : Expr) (choices : Vec GenerateChoice Global) (w : WrittenItem) → w ≡ item.Case at selector choices → opened_item settings (written_item w) o ≡ with_outcome (outcome_in o (formula selector)) (judging o at (formula selector)) (λ n o. case_opened settings at n (choice_row (map choice choices.items)) o)
case_is_opened settings o at selector choices w is =
    ap (λ w. opened_item settings (written_item w) o) is ∙ ap (λ t. opened_item settings t o) (generate_case_is at selector choices)

pub block_made : (at : ℕ) (label : Option Name) (items : Vec WrittenItem Global) (b : GenerateBlock) → b ≡ block.Block at label items → made b ≡ Block at (option_map identifier label) (item_row (map written_item items.items))
block_made at label items b is = ap made is ∙ generate_block_is at label items

pub plain_block_opened : (settings : Settings) (o : Opening) (at : ℕ) (label : Option Name) (items : Vec WrittenItem Global) (b : GenerateBlock) → b ≡ block.Block at label items → label ≡ None → opened_block settings (made b) o ≡ opened_items settings (item_row (map written_item items.items)) o
plain_block_opened settings o at label items b is none =
    ap (λ t. opened_block settings t o) (block_made at label items b is)
    ∙ ap (λ l. opened_block settings (Block at (option_map identifier l) (item_row (map written_item items.items))) o) none

pub labelled_block_opened : (settings : Settings) (o : Opening) (at : ℕ) (label : Option Name) (name : Name) (items : Vec WrittenItem Global) (b : GenerateBlock) → b ≡ block.Block at label items → label ≡ Some name → opened_block settings (made b) o ≡ leaving (block_component (identifier name).text) (identifier name).at (labelling o (identifier name)) (opened_items no_settings (item_row (map written_item items.items)) (entering (labelling o (identifier name))))
labelled_block_opened settings o at label name items b is some =
    ap (λ t. opened_block settings t o) (block_made at label items b is)
    ∙ ap (λ l. opened_block settings (Block at (option_map identifier l) (item_row (map written_item items.items))) o) some

pub block_body_opened : (o : Opening) (at : ℕ) (label : Option Name) (items : Vec WrittenItem Global) (b : GenerateBlock) → b ≡ block.Block at label items → opened_body (made b) o ≡ opened_items no_settings (item_row (map written_item items.items)) o
block_body_opened o at label items b is = ap (λ t. opened_body t o) (block_made at label items b is)

pub for_opened : (settings : Settings) (o : Opening) (at : ℕ) (index : Name) (start condition : Expr) (stepped : Name) (step : Expr) (body : GenerateBlock) (w : WrittenItem) → w ≡ item.For at index start condition stepped step body → opened_item settings (written_item w) o ≡ unless_faulty (head_faults o.scopes (identifier index) (identifier stepped)) o (λ o. with_outcome (outcome_in o (formula start)) (judging o at (formula start)) (looping (opened_body (made body)) (record { at = at; index = identifier index; condition = formula condition; step = formula step; label = (loop_label at (made body)).text }) (loop_label at (made body))))
for_opened settings o at index start condition stepped step body w is = ap (λ w. opened_item settings (written_item w) o) is

pub choice_opened : (settings : Settings) (o : Opening) (all : List GenerateChoice) (k : ℕ) → opened_choices settings (choice_row (map choice all)) (Some k) o ≡ opened_at settings (slice_get all k) o
choice_opened settings o [] k = refl
choice_opened settings o (first ∷ others) zero = refl
choice_opened settings o (first ∷ others) (suc k) = choice_opened settings o others k
