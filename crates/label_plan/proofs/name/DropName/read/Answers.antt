use Rattle.std.proofs.Common.{decimal}
use Rattle.label_plan.proofs.Fields.{fields_of, words_of, name_of, one_name}
use Rattle.std.proofs.lemmas.Result.{IfOk-weaker, IfErr-weaker}
use Rattle.label_plan.proofs.name.DropName.read.Goals as goal

pub returns-in-None-clause-none : goal.returns-in-None-clause-none
returns-in-None-clause-none c = λ relay scope index is. c.in-None.ensures.only (decimal relay) scope (decimal index) (fields_of c.args.text.now relay scope index is)

pub returns-in-Some-clause-name : goal.returns-in-Some-clause-name
returns-in-Some-clause-name c = IfOk-weaker c.named.result _ _ (λ name words. name_of c.args.text.now c.in-Some.fields.relay.now c.in-Some.fields.scope.now c.in-Some.fields.index.now name.relay name.scope.now name.index c.in-Some.ensures.text words) c.named.ensures.name

pub returns-in-Some-clause-only : goal.returns-in-Some-clause-only
returns-in-Some-clause-only c = IfOk-weaker c.named.result _ _ (λ name words relay scope index is.
    let fields = c.in-Some.ensures.only (decimal relay) scope (decimal index) (fields_of c.args.text.now relay scope index is) in
    one_name c.in-Some.fields.relay.now c.in-Some.fields.scope.now c.in-Some.fields.index.now relay scope index name.relay name.scope.now name.index
    (words_of c.args.text.now c.in-Some.fields.relay.now c.in-Some.fields.scope.now c.in-Some.fields.index.now relay scope index is fields) words) c.named.ensures.name

pub returns-in-Some-clause-none : goal.returns-in-Some-clause-none
returns-in-Some-clause-none c = IfErr-weaker c.named.result _ _ (λ e refused relay scope index is.
    let fields = c.in-Some.ensures.only (decimal relay) scope (decimal index) (fields_of c.args.text.now relay scope index is) in
    refused relay scope index (words_of c.args.text.now c.in-Some.fields.relay.now c.in-Some.fields.scope.now c.in-Some.fields.index.now relay scope index is fields)) c.named.ensures.none
