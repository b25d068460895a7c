use Rattle.std.proofs.Common.{◌≡◌, ◌+◌, sym, refl, ap, ◌∙◌, ltb, find, arith, rules, tests}
use Rattle.std.specs.Option.{option_map}
use Rattle.std.specs.List.{range_with_len}
use Rattle.std.proofs.lemmas.Iterator.{YieldsList-from_range}
use Rattle.std.proofs.lemmas.Iterator.Adapters.{option_map_id}
use Rattle.std.proofs.lemmas.Iterator.Search.{find_from_yields_List}
use Rattle.state.specs.Lists.{stored_length}
use Rattle.model.specs.declared.Sender.TheVariants.{Packet}
use Rattle.lists.proofs.Sending.{first_numbered}
use Rattle.lists.proofs.slots.first_stored.Goals as goal

pub returns : goal.returns
returns c =
    let s = c.args.s.now in
    let l = c.args.l in
    let k = c.args.k in
    let n = c.args.n in
    let m : c.map.result ≡ option_map (λ i. Packet l (k + i)) c.find.result = search rules in
    let first : c.find.result ≡ find (λ i. ltb 0 (stored_length s (k + i))) (range_with_len 0 n) =
    sym (option_map_id c.find.result) ∙ find_from_yields_List (λ i. ltb 0 (stored_length s (k + i))) _ _ c.find.result c.find.ensures.ran (YieldsList-from_range 0 n n refl (omega arith)) (λ x b q h. search (rules, tests)) in
    rw (← c.requires.2) (m ∙ ap (option_map (λ i. Packet l (k + i))) first ∙ ap (λ j. option_map (λ i. Packet l (j + i)) (find (λ i. ltb 0 (stored_length s (j + i))) (range_with_len 0 n))) c.requires.1 ∙ sym (first_numbered s l c.requires.0 c.told-s 0 n (omega (arith, c.requires.2))))
