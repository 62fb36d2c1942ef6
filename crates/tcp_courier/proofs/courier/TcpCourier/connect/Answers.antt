use Rattle.std.proofs.Common.{◌≡◌, ◌∙◌, ◌≤◌, ◌<◌, ◌+◌, ap, arith, subst, sym, rules, min, length, List, take, drop, Some, None, option_map}
use Rattle.std.specs.Prelude.{IfSome, IfOk}
use Rattle.std.specs.List.{position_from}
use Rattle.relay_sockets.specs.Endpoints.{Endpoint}
use Rattle.tcp_courier.specs.Carrying.{IsToFirst, IsToOne, Sender}
use Rattle.tcp_courier.specs.Turns.{in_turn, place_in_turn}
use Rattle.tcp_courier.proofs.Turning.{to_one_behind, to_one_before, first_behind, first_before, first_same, ok_too, placed_before, placed_behind, some_too}
use Rattle.tcp_courier.proofs.courier.TcpCourier.connect.Goals as goal

pub returns-in-Some-clause-one : goal.returns-in-Some-clause-one
returns-in-Some-clause-one g c =
    let origin = g.N.Stream.Wire.origin c.in-Some.reached.stream in
    let one : IsToOne (drop c.min-at.result c.args.self.now.servers) origin = search rules in
    to_one_behind c.min-at.result c.args.self.now.servers origin one

pub returns-in-Some-clause-first : goal.returns-in-Some-clause-first
returns-in-Some-clause-first g c known =
    let takes = g.N.Dialer.takes c.args.self.now.dialer in
    let servers = c.args.self.now.servers in
    let origin = g.N.Stream.Wire.origin c.in-Some.reached.stream in
    let dialer = c.deref-2.ensures ∙ ap (λ (s : Sender _). s.dialer) c.self.view_is in
    let its = c.deref.ensures.value ∙ ap (λ (s : Sender _). s.servers) c.self.view_is in
    let at : c.min-at.result ≡ min c.args.turn.place (length servers) = search rules in
    let behind = c.split_at.ensures.back ∙ ap (drop c.min-at.result) its ∙ ap (λ n. drop n servers) at in
    let found = c.in_ok-reached.ensures.first (subst g.N.Dialer.is_known (sym dialer) known) in
    let first =
    subst (λ o. IsToFirst takes (drop (min c.args.turn.place (length servers)) servers) (option_map (λ r. g.N.Stream.Wire.origin r.stream) o)) c.in-Some.is
    (first_same g.N.Dialer.takes _ _ _ _ _ dialer behind found) in
    first_behind takes c.args.turn.place servers origin first

pub returns-in-None-clause-one : goal.returns-in-None-clause-one
returns-in-None-clause-one g c =
    let servers = c.args.self.now.servers in
    let its = c.deref.ensures.value ∙ ap (λ (s : Sender _). s.servers) c.self.view_is in
    let before = c.split_at.ensures.front ∙ ap (take c.min-at.result) its in
    let one : IfOk c.first_of-in-None.result (λ found. IfSome found (λ r. IsToOne (take c.min-at.result servers) (g.N.Stream.Wire.origin r.stream))) =
    subst (λ l. IfOk c.first_of-in-None.result (λ found. IfSome found (λ r. IsToOne l (g.N.Stream.Wire.origin r.stream)))) before c.first_of-in-None.ensures.one in
    ok_too (λ found. IfSome found (λ r. IsToOne (take c.min-at.result servers) (g.N.Stream.Wire.origin r.stream)))
    (λ found. IfSome found (λ r. IsToOne servers (g.N.Stream.Wire.origin r.stream))) c.first_of-in-None.result
    (λ found. some_too (λ r. IsToOne (take c.min-at.result servers) (g.N.Stream.Wire.origin r.stream)) (λ r. IsToOne servers (g.N.Stream.Wire.origin r.stream)) found
    (λ r. to_one_before c.min-at.result servers (g.N.Stream.Wire.origin r.stream)))
    one

pub returns-in-None-clause-first : goal.returns-in-None-clause-first
returns-in-None-clause-first g c known =
    let takes = g.N.Dialer.takes c.args.self.now.dialer in
    let turn = c.args.turn.place in
    let servers = c.args.self.now.servers in
    let dialer = c.deref-2.ensures ∙ ap (λ (s : Sender _). s.dialer) c.self.view_is in
    let again = c.deref-in-None.ensures ∙ ap (λ (s : Sender _). s.dialer) c.self.view_is in
    let its = c.deref.ensures.value ∙ ap (λ (s : Sender _). s.servers) c.self.view_is in
    let at : c.min-at.result ≡ min turn (length servers) = search rules in
    let behind = c.split_at.ensures.back ∙ ap (drop c.min-at.result) its ∙ ap (λ n. drop n servers) at in
    let before = c.split_at.ensures.front ∙ ap (take c.min-at.result) its ∙ ap (λ n. take n servers) at in
    let missed = c.in_ok-reached.ensures.first (subst g.N.Dialer.is_known (sym dialer) known) in
    let none : IsToFirst takes (drop (min turn (length servers)) servers) None =
    subst (λ o. IsToFirst takes (drop (min turn (length servers)) servers) (option_map (λ r. g.N.Stream.Wire.origin r.stream) o)) c.in-None.is
    (first_same g.N.Dialer.takes _ _ _ _ _ dialer behind missed) in
    let found = c.first_of-in-None.ensures.first (subst g.N.Dialer.is_known (sym again) known) in
    let first : IfOk c.first_of-in-None.result (λ found. IsToFirst takes (take (min turn (length servers)) servers) (option_map (λ r. g.N.Stream.Wire.origin r.stream) found)) =
    ok_too (λ found. IsToFirst (g.N.Dialer.takes c.deref-in-None.result.now) c.split_at.result.0.now (option_map (λ r. g.N.Stream.Wire.origin r.stream) found))
    (λ found. IsToFirst takes (take (min turn (length servers)) servers) (option_map (λ r. g.N.Stream.Wire.origin r.stream) found)) c.first_of-in-None.result
    (λ found. first_same g.N.Dialer.takes _ _ _ _ _ again before)
    found in
    ok_too (λ found. IsToFirst takes (take (min turn (length servers)) servers) (option_map (λ r. g.N.Stream.Wire.origin r.stream) found))
    (λ found. IsToFirst takes (in_turn turn servers) (option_map (λ r. g.N.Stream.Wire.origin r.stream) found)) c.first_of-in-None.result
    (λ found. first_before takes turn servers (option_map (λ r. g.N.Stream.Wire.origin r.stream) found) none)
    first

pub returns-in-Some-clause-place : goal.returns-in-Some-clause-place
returns-in-Some-clause-place g c known =
    let takes = g.N.Dialer.takes c.args.self.now.dialer in
    let servers = c.args.self.now.servers in
    let turn = c.args.turn.place in
    let dialer = c.deref-2.ensures ∙ ap (λ (s : Sender _). s.dialer) c.self.view_is in
    let its = c.deref.ensures.value ∙ ap (λ (s : Sender _). s.servers) c.self.view_is in
    let at : c.min-at.result ≡ min turn (length servers) = search rules in
    let behind = c.split_at.ensures.back ∙ ap (drop c.min-at.result) its ∙ ap (λ n. drop n servers) at in
    let found = c.in_ok-reached.ensures.place (subst g.N.Dialer.is_known (sym dialer) known) in
    placed_behind takes turn servers c.in-Some.reached.place
    (ap (option_map (λ r. r.place)) (sym c.in-Some.is) ∙ found ∙ ap (λ d. position_from (g.N.Dialer.takes d) c.min-at.result c.split_at.result.1.now) dialer
    ∙ ap (λ l. position_from takes c.min-at.result l) behind ∙ ap (λ n. position_from takes n (drop (min turn (length servers)) servers)) at)

pub returns-in-None-clause-within : goal.returns-in-None-clause-within
returns-in-None-clause-within g c =
    let servers = c.args.self.now.servers in
    let its = c.deref.ensures.value ∙ ap (λ (s : Sender _). s.servers) c.self.view_is in
    let at : c.min-at.result ≡ min c.args.turn.place (length servers) = search rules in
    let front = c.split_at.ensures.front_len in
    ok_too (λ found. IfSome found (λ r. r.place < 0 + length c.split_at.result.0.now)) (λ found. IfSome found (λ r. r.place < length servers)) c.first_of-in-None.result
    (λ found. some_too (λ r. r.place < 0 + length c.split_at.result.0.now) (λ r. r.place < length servers) found (λ r h. omega (arith, h, front, at)))
    c.first_of-in-None.ensures.within

pub returns-in-None-clause-place : goal.returns-in-None-clause-place
returns-in-None-clause-place g c known =
    let takes = g.N.Dialer.takes c.args.self.now.dialer in
    let servers = c.args.self.now.servers in
    let turn = c.args.turn.place in
    let dialer = c.deref-2.ensures ∙ ap (λ (s : Sender _). s.dialer) c.self.view_is in
    let again = c.deref-in-None.ensures ∙ ap (λ (s : Sender _). s.dialer) c.self.view_is in
    let its = c.deref.ensures.value ∙ ap (λ (s : Sender _). s.servers) c.self.view_is in
    let at : c.min-at.result ≡ min turn (length servers) = search rules in
    let behind = c.split_at.ensures.back ∙ ap (drop c.min-at.result) its ∙ ap (λ n. drop n servers) at in
    let before = c.split_at.ensures.front ∙ ap (take c.min-at.result) its ∙ ap (λ n. take n servers) at in
    let missed = c.in_ok-reached.ensures.place (subst g.N.Dialer.is_known (sym dialer) known) in
    let found = c.first_of-in-None.ensures.place (subst g.N.Dialer.is_known (sym again) known) in
    ok_too (λ found. option_map (λ r. r.place) found ≡ position_from (g.N.Dialer.takes c.deref-in-None.result.now) 0 c.split_at.result.0.now)
    (λ found. option_map (λ r. r.place) found ≡ place_in_turn takes servers turn) c.first_of-in-None.result
    (λ found h. placed_before takes turn servers (option_map (λ r. r.place) found)
    (ap (option_map (λ r. r.place)) (sym c.in-None.is) ∙ missed ∙ ap (λ d. position_from (g.N.Dialer.takes d) c.min-at.result c.split_at.result.1.now) dialer
    ∙ ap (λ l. position_from takes c.min-at.result l) behind ∙ ap (λ n. position_from takes n (drop (min turn (length servers)) servers)) at)
    (h ∙ ap (λ d. position_from (g.N.Dialer.takes d) 0 c.split_at.result.0.now) again ∙ ap (position_from takes 0) before))
    found
