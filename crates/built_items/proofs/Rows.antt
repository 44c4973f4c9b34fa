-- Rows of top-level declarations, of which the first few were read.
use Rattle.std.proofs.Common.{◌≡◌, ℕ, suc, ◌+◌, ◌<◌, length, List, [], ◌∷◌, ◌++◌, drop, get_or, drop-cons, add-one, append_assoc, append-nil, Option, Some, Result, Ok, Err, refl, sym, ap, ◌∙◌}
use Rattle.tl_text.specs.declared.place.Place.{Place}
use Rattle.sml_ast.specs.declared.bare_program.BareTop.{BareTop}
use Rattle.built_items.specs.declared.item.SourceItem.{SourceItem}
use Rattle.built_items.specs.declared.forms.Reading.{Reading}
use Rattle.built_items.specs.declared.forms.Reading.TheVariants.{Item, Directive}
use Rattle.built_items.specs.Built.{items_of_top, place_of, read_on, read_tops, with_items}
use Rattle.built_items.specs.Readings.{items_read}

-- items before items
with_more : (items more : List SourceItem) (rest : Result (List SourceItem) Place) → with_items items (with_items more rest) ≡ with_items (items ++ more) rest
with_more items more (Ok xs) = ap Ok (sym (append_assoc items more xs))
with_more items more (Err place) = refl

-- a declaration that is these items, and the rest of the row
after_top : (items more : List SourceItem) (tops : List BareTop) (i : ℕ) (top : BareTop) → i < length tops → top ≡ get_or tops i top → Some more ≡ items_of_top top → with_items items (read_tops (drop i tops)) ≡ with_items (items ++ more) (read_tops (drop (i + 1) tops))
after_top items more tops i top l e built =
    let rest = read_tops (drop (suc i) tops) in
    let at : drop i tops ≡ top ∷ drop (suc i) tops = drop-cons tops i top l ∙ ap (λ (x : BareTop). x ∷ drop (suc i) tops) (sym e) in
    ap (λ (ts : List BareTop). with_items items (read_tops ts)) at ∙
    (ap (λ (o : Option (List SourceItem)). with_items items (read_on o (place_of top) rest)) (sym built) ∙
    (with_more items more rest ∙
    ap (λ (k : ℕ). with_items (items ++ more) (read_tops (drop k tops))) (sym (add-one i))))

module _ (items : List SourceItem) (tops : List BareTop) (i : ℕ) (top : BareTop) (reading : Reading) (row : Result (List SourceItem) Place) (less : i < length tops) (is_top : top ≡ get_or tops i top) (is_read : items_read reading ≡ items_of_top top) (before : with_items items (read_tops (drop i tops)) ≡ row) where
  pub after_item : (item : SourceItem) (now : List SourceItem) → reading ≡ Item item → now ≡ items ++ item ∷ [] → with_items now (read_tops (drop (i + 1) tops)) ≡ row
  after_item item now is new =
      ap (λ (xs : List SourceItem). with_items xs (read_tops (drop (i + 1) tops))) new ∙
      (sym (after_top items (item ∷ []) tops i top less is_top (sym (ap items_read is) ∙ is_read)) ∙ before)

  pub after_directive : (now : List SourceItem) → reading ≡ Directive → now ≡ items → with_items now (read_tops (drop (i + 1) tops)) ≡ row
  after_directive now is same =
      ap (λ (xs : List SourceItem). with_items xs (read_tops (drop (i + 1) tops))) (same ∙ sym (append-nil items)) ∙
      (sym (after_top items [] tops i top less is_top (sym (ap items_read is) ∙ is_read)) ∙ before)
