-- What a value is without where it lies in memory.
use Rattle.std.specs.Prelude.{map}
use Rattle.plan_lines.specs.declared.form.Form.{Form}
use Rattle.plan_lines.specs.declared.form.Form.TheVariants as forms
use Rattle.plan_lines.specs.Forms.{LineForm, nothing, a_relay, a_client, a_label, a_reach, a_duty, no_form}

-- the form of a line
abbrev pub form_view : Form → LineForm
form_view forms.Nothing = nothing
form_view (forms.Relay number host folder conf) = a_relay number.now host.now folder.now conf.now
form_view (forms.Client number port patterns) =
    a_client number.now port.now (map (λ word. word.now) patterns.now)
form_view (forms.Label number scope patterns) =
    a_label number.now scope.now (map (λ word. word.now) patterns.now)
form_view (forms.Reach number scope index patterns) =
    a_reach number.now scope.now index.now (map (λ word. word.now) patterns.now)
form_view (forms.Duty duty) = a_duty duty
form_view forms.Bad = no_form
