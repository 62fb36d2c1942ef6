use Rattle.relay_conf.proofs.section.parameter_form.Goals as goal

pub returns-in-Buffer : goal.returns-in-Buffer
returns-in-Buffer c = rw c.in-Buffer.is c.form_in-in-Buffer.ensures
