use Rattle.std.proofs.Common.{◌≡◌, ℕ, List, [], ◌∷◌, ◌++◌, length, map, take, get_or, sym, ap, ◌∙◌}
use Rattle.std.specs.Borrow.{Bor}
use Rattle.std.specs.List.{filter_map}
use Rattle.std.proofs.lemmas.List.{map_more, length-map, take_all}
use Rattle.std.proofs.lemmas.List.Elements.{filter_map-append}
use Rattle.plan_lines.specs.Forms.{conf_named, confs_named}
use Rattle.plan_lines.proofs.Words.{no_word}
use Rattle.plan_lines.proofs.names.conf_names.Goals as goal

pub loop-line-preserved : goal.loop-line-preserved
loop-line-preserved g c =
    let items = c.deref-line-items.result.now in
    let at = c.loop-line.line-index in
    let line = get_or items at no_word in
    let front = map (λ (line : Bor (List ℕ)). line.now) (take at items) in
    rw (c.in_ok-push_conf.ensures, map_more (λ (line : Bor (List ℕ)). line.now) items at no_word c.loop-line-test.true, filter_map-append conf_named front (line.now ∷ []))
    (ap (λ (names : List (List ℕ)). names ++ filter_map conf_named (line.now ∷ [])) c.loop-line.invariant)

pub returns : goal.returns
returns g c =
    let items = c.deref-line-items.result.now in
    let named : map (λ (name : Bor (List ℕ)). name.now) c.loop-line.names.items ≡ confs_named c.args.net.now =
    c.loop-line.invariant ∙ ap (λ (lines : List (Bor (List ℕ))). filter_map conf_named (map (λ line. line.now) lines)) (take_all c.loop-line.line-index items c.loop-line-test.false ∙ c.deref-line-items.ensures.value)
    ∙ ap (filter_map conf_named) c.in_ok-lines.ensures in
    record {
      names = named;
      count = sym (length-map c.loop-line.names.items (λ (name : Bor (List ℕ)). name.now)) ∙ ap length named;
    }
