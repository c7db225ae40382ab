-- What the numbers of a surface say of its decimals.
use Rattle.std.specs.Prelude.{ℕ, ◌+◌, ◌*◌}
use Rattle.surface_tables.specs.Counts.{per_pole, plain_size, swept_size, wrap_size}
use Rattle.surface_tables.specs.declared.parts.Body.{Body}
use Rattle.surface_tables.specs.declared.parts.Form.{Form}
use Rattle.surface_tables.specs.declared.parts.Form.TheVariants as forms
use Rattle.surface_tables.specs.declared.parts.Net.{Net}

-- the poles of a Bezier surface are one more than the degree in each direction
abbrev pub bezier_poles : ℕ → ℕ → ℕ
bezier_poles udegree vdegree = (udegree + 1) * (vdegree + 1)

abbrev pub net_poles : Net → ℕ
net_poles net = net.upoles * net.vpoles

-- how many decimals a form has
abbrev pub form_size : Form → ℕ
form_size (forms.Plain code) = plain_size code
form_size (forms.Swept code) = swept_size code
form_size (forms.Bezier urational vrational udegree vdegree) =
    bezier_poles udegree vdegree * per_pole urational vrational
form_size (forms.BSpline net uknots vknots) = net_poles net * per_pole net.flags.urational net.flags.vrational
form_size (forms.Around wrap) = wrap_size wrap

abbrev pub body_of : Form → Body
body_of form = record { form = form; decimals = form_size form }
