use Rattle.std.proofs.Common.{◌∙◌, ℕ, ap, subst, sym}
use Rattle.loop_core.specs.Lanes.{LanesState, NoneLater}
use Rattle.mio_relay.specs.Connections.{AreInTime}
use Rattle.mio_relay.proofs.Refusing.{went_well}
use Rattle.mio_relay.proofs.Slots.{on_ok}
use Rattle.mio_relay.proofs.Staying.{only_later_still, queued_still, rests_more, stays_more}
use Rattle.mio_relay.proofs.Turning.{takes_more, turned_by, turned_none}
use Rattle.mio_relay.proofs.in_loop.InLoop.turn_once.Goals as goal

pub returns-clause-stays : goal.returns-clause-stays
returns-clause-stays g c =
    let old = c.args.self.now in
    let timed = stays_more old c.wait.new.self c.set_time.new.self c.wait.ensures.stays c.set_time.ensures.stays in
    let accepted = stays_more old c.set_time.new.self c.accept_all.new.self timed c.accept_all.ensures.stays in
    let taken = stays_more old c.accept_all.new.self c.take_in-read.new.self accepted c.take_in-read.ensures.stays in
    let stored = stays_more old c.take_in-read.new.self c.store.new.self taken c.store.ensures.stays in
    let ended = stays_more old c.store.new.self c.settle_all.new.self stored c.settle_all.ensures.stays in
    let renewed = stays_more old c.settle_all.new.self c.renew.new.self ended c.renew.ensures.stays in
    let written = stays_more old c.renew.new.self c.write_all.new.self renewed c.write_all.ensures.stays in
    let closed = stays_more old c.write_all.new.self c.close_all.new.self written c.close_all.ensures.stays in
    stays_more old c.close_all.new.self c.shed.new.self closed c.shed.ensures.stays

pub returns-clause-settled : goal.returns-clause-settled
returns-clause-settled g c =
    let rests = rests_more c.write_all.new.self c.close_all.new.self c.shed.new.self c.close_all.ensures.rests c.shed.ensures.rests in
    let same =
    rests.later ∙ ap (λ (l : LanesState _). l.later) c.write_all.ensures.lanes ∙ c.renew.ensures.rests.later
    ∙ ap (λ (l : LanesState _). l.later) c.settle_all.ensures.lanes in
    on_ok c.match-fault.result _
    (λ none. rests.settled (c.write_all.ensures.settled (c.renew.ensures.rests.settled (c.settle_all.ensures.settled (subst NoneLater same none)))))

pub returns-clause-redeemed : goal.returns-clause-redeemed
returns-clause-redeemed g c =
    let rests = rests_more c.write_all.new.self c.close_all.new.self c.shed.new.self c.close_all.ensures.rests c.shed.ensures.rests in
    let waiting =
    rests.waiting ∙ ap (λ (l : LanesState _). l.waiting) c.write_all.ensures.lanes ∙ c.renew.ensures.rests.waiting
    ∙ ap (λ (l : LanesState _). l.waiting) c.settle_all.ensures.lanes in
    let later =
    rests.later ∙ ap (λ (l : LanesState _). l.later) c.write_all.ensures.lanes ∙ c.renew.ensures.rests.later
    ∙ ap (λ (l : LanesState _). l.later) c.settle_all.ensures.lanes in
    on_ok c.match-fault.result _ (only_later_still c.store.new.self.lanes c.shed.new.self.lanes waiting later c.store.ensures.redeemed)

pub returns-clause-queued : goal.returns-clause-queued
returns-clause-queued g c =
    let rests = rests_more c.write_all.new.self c.close_all.new.self c.shed.new.self c.close_all.ensures.rests c.shed.ensures.rests in
    let plans =
    rests.plans ∙ ap (λ (l : LanesState _). l.plans) c.write_all.ensures.lanes ∙ c.renew.ensures.rests.plans
    ∙ ap (λ (l : LanesState _). l.plans) c.settle_all.ensures.lanes in
    let time =
    rests.time ∙ ap (λ (l : LanesState _). l.time) c.write_all.ensures.lanes ∙ c.renew.ensures.rests.time
    ∙ ap (λ (l : LanesState _). l.time) c.settle_all.ensures.lanes in
    let short =
    rests.short ∙ ap (λ (l : LanesState _). l.short) c.write_all.ensures.lanes ∙ c.renew.ensures.rests.short
    ∙ ap (λ (l : LanesState _). l.short) c.settle_all.ensures.lanes in
    on_ok c.match-fault.result _ (queued_still c.store.new.self.lanes c.shed.new.self.lanes plans time short c.store.ensures.queued)

pub returns-clause-timed : goal.returns-clause-timed
returns-clause-timed g c =
    let rests = rests_more c.write_all.new.self c.close_all.new.self c.shed.new.self c.close_all.ensures.rests c.shed.ensures.rests in
    let taken = takes_more c.set_time.new.self c.accept_all.new.self c.take_in-read.new.self c.accept_all.ensures.takes c.take_in-read.ensures.takes in
    let stored = takes_more c.set_time.new.self c.take_in-read.new.self c.store.new.self taken c.store.ensures.takes in
    let ended = takes_more c.set_time.new.self c.store.new.self c.settle_all.new.self stored c.settle_all.ensures.takes in
    let renewed = takes_more c.set_time.new.self c.settle_all.new.self c.renew.new.self ended c.renew.ensures.takes in
    let written = takes_more c.set_time.new.self c.renew.new.self c.write_all.new.self renewed c.write_all.ensures.takes in
    on_ok c.match-fault.result _
    (rests.time ∙ written.lanes_time ∙ c.set_time.ensures.timed ∙ sym written.time ∙ sym c.close_all.ensures.time ∙ sym c.shed.ensures.time)

pub returns-clause-clocked : goal.returns-clause-clocked
returns-clause-clocked g c =
    let taken = takes_more c.set_time.new.self c.accept_all.new.self c.take_in-read.new.self c.accept_all.ensures.takes c.take_in-read.ensures.takes in
    let stored = takes_more c.set_time.new.self c.take_in-read.new.self c.store.new.self taken c.store.ensures.takes in
    let ended = takes_more c.set_time.new.self c.store.new.self c.settle_all.new.self stored c.settle_all.ensures.takes in
    let renewed = takes_more c.set_time.new.self c.settle_all.new.self c.renew.new.self ended c.renew.ensures.takes in
    let written = takes_more c.set_time.new.self c.renew.new.self c.write_all.new.self renewed c.write_all.ensures.takes in
    let same = c.shed.ensures.time ∙ c.close_all.ensures.time ∙ written.time in
    on_ok c.match-fault.result _ (rw (same, ← c.wait.ensures.stays.clock, ← c.wait.ensures.time) c.set_time.ensures.clocked)

pub returns-clause-flushed : goal.returns-clause-flushed
returns-clause-flushed g c = on_ok c.match-fault.result _ (c.shed.ensures.rests.flushed (c.close_all.ensures.rests.flushed c.write_all.ensures.flushed))

pub returns-clause-in_time : goal.returns-clause-in_time
returns-clause-in_time g c =
    on_ok c.match-fault.result _
    (c.shed.ensures.in_time (subst (λ (t : ℕ). AreInTime t c.close_all.new.self.connections) (sym c.close_all.ensures.time) c.close_all.ensures.in_time))

pub returns-clause-held : goal.returns-clause-held
returns-clause-held g c = on_ok c.match-fault.result _ c.shed.ensures.held

pub returns-in_err-wait-clause-turned : goal.returns-in_err-wait-clause-turned
returns-in_err-wait-clause-turned g c = turned_none c.wait.new.self.time c.args.self.now.connections c.wait.new.self.connections c.wait.ensures.stands

pub returns-clause-turned : goal.returns-clause-turned
returns-clause-turned g c =
    let taken = takes_more c.set_time.new.self c.accept_all.new.self c.take_in-read.new.self c.accept_all.ensures.takes c.take_in-read.ensures.takes in
    let stored = takes_more c.set_time.new.self c.take_in-read.new.self c.store.new.self taken c.store.ensures.takes in
    let ended = takes_more c.set_time.new.self c.store.new.self c.settle_all.new.self stored c.settle_all.ensures.takes in
    let renewed = takes_more c.set_time.new.self c.settle_all.new.self c.renew.new.self ended c.renew.ensures.takes in
    let written = takes_more c.set_time.new.self c.renew.new.self c.write_all.new.self renewed c.write_all.ensures.takes in
    turned_by c.args.self.now c.wait.new.self c.set_time.new.self c.write_all.new.self c.close_all.new.self c.shed.new.self c.wait.ensures.stands c.set_time.ensures.same written
    c.close_all.ensures.loses c.close_all.ensures.time c.shed.ensures.stands c.shed.ensures.time

pub returns-in_err-read-clause-turned : goal.returns-in_err-read-clause-turned
returns-in_err-read-clause-turned g c =
    let taken = takes_more c.set_time.new.self c.accept_all.new.self c.take_in-read.new.self c.accept_all.ensures.takes c.take_in-read.ensures.takes in
    let stored = takes_more c.set_time.new.self c.take_in-read.new.self c.store.new.self taken c.store.ensures.takes in
    let ended = takes_more c.set_time.new.self c.store.new.self c.settle_all.new.self stored c.settle_all.ensures.takes in
    let renewed = takes_more c.set_time.new.self c.settle_all.new.self c.renew.new.self ended c.renew.ensures.takes in
    let written = takes_more c.set_time.new.self c.renew.new.self c.write_all.new.self renewed c.write_all.ensures.takes in
    turned_by c.args.self.now c.wait.new.self c.set_time.new.self c.write_all.new.self c.close_all.new.self c.shed.new.self c.wait.ensures.stands c.set_time.ensures.same written
    c.close_all.ensures.loses c.close_all.ensures.time c.shed.ensures.stands c.shed.ensures.time

pub returns-clause-refused : goal.returns-clause-refused
returns-clause-refused g c = went_well c.args.self.now.refusal c.wait.result _ c.match-fault.result c.in_ok-wait.was c.wait.ensures.refused
