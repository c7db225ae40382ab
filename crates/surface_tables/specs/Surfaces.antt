-- Reading a surface.
use Rattle.std.specs.Prelude.{ℕ, zero, suc, ◌-◌, ◌==◌, if◌then◌else◌, List, Ok, Err}
use Rattle.lists.specs.Results.{◌>>=◌}
use Rattle.entry_readers.specs.Reading.{Read, Knots, fault, at_token, decimals_at, knots_at}
use Rattle.brep_tokens.specs.declared.text.Token.{Token}
use Rattle.brep_tokens.specs.declared.fault.ReadCode.TheVariants as codes
use Rattle.curve_tables.specs.Curves.{curve3_at}
use Rattle.surface_tables.specs.Bodies.{body_of}
use Rattle.surface_tables.specs.Frames.{framed_by}
use Rattle.surface_tables.specs.Headers.{code_at, bezier_at, spline_at}
use Rattle.surface_tables.specs.declared.parts.Body.{Body}
use Rattle.surface_tables.specs.declared.parts.Form.{Form}
use Rattle.surface_tables.specs.declared.parts.Form.TheVariants as forms
use Rattle.surface_tables.specs.declared.parts.Net.{Net}
use Rattle.surface_tables.specs.declared.parts.Part.{Part}
use Rattle.surface_tables.specs.declared.parts.Part.TheVariants as parts
use Rattle.surface_tables.specs.declared.parts.Wrap.TheVariants.{Trimmed, Offset}
use Rattle.surface_tables.specs.declared.surface.Surface.{Surface}
use Rattle.surface_tables.specs.declared.surface.Surface.TheVariants as surfaces

abbrev pub net_surface : Net → List (List ℕ) → Knots → Knots → Part
net_surface net poles u v =
    parts.Leaf (surfaces.BSpline net.flags net.udegree net.vdegree net.upoles net.vpoles poles u.texts u.counts
    v.texts v.counts)

-- what follows the decimals, where so many codes are open
abbrev pub after_texts : ℕ → Form → List (List ℕ) → List Token → Read Part
after_texts nest (forms.Plain code) texts ts = Ok (parts.Leaf (surfaces.Plain code texts), ts)
after_texts nest (forms.Swept code) texts ts = curve3_at nest ts
    >>= λ c. Ok (parts.Leaf (surfaces.Swept code texts c.0), c.1)
after_texts nest (forms.Bezier urational vrational udegree vdegree) texts ts =
    Ok (parts.Leaf (surfaces.Bezier urational vrational udegree vdegree texts), ts)
after_texts nest (forms.BSpline net uknots vknots) texts ts = knots_at uknots ts >>= λ u. knots_at vknots u.1
    >>= λ v. Ok (net_surface net texts u.0 v.0, v.1)
after_texts nest (forms.Around wrap) texts ts = Ok (parts.Open (record { wrap = wrap; texts = texts }), ts)

abbrev pub body_at : ℕ → Body → List Token → Read Part
body_at nest body ts = decimals_at body.decimals ts >>= λ texts. after_texts nest body.form texts.0 texts.1

-- what follows a code, where so many codes are open, this one too
abbrev pub part_at : ℕ → ℕ → List Token → Read Part
part_at nest code ts =
    if code == 6 then body_at nest (body_of (forms.Swept 6)) ts
    else (if code == 7 then body_at nest (body_of (forms.Swept 7)) ts
    else (if code == 8 then (bezier_at ts >>= λ b. body_at nest b.0 b.1)
    else (if code == 9 then (spline_at ts >>= λ b. body_at nest b.0 b.1)
    else (if code == 10 then body_at nest (body_of (forms.Around Trimmed)) ts
    else (if code == 11 then body_at nest (body_of (forms.Around Offset)) ts
    else body_at nest (body_of (forms.Plain code)) ts)))))

-- the surface, where the part needs no other; else what is read in it
abbrev pub closed : (List Token → Read Surface) → Part → List Token → Read Surface
closed inner (parts.Leaf s) ts = Ok (s, ts)
closed inner (parts.Open f) ts = inner ts >>= λ b. Ok (framed_by f b.0, b.1)

-- A surface of at most so many codes that stand in one another: of 64 codes, the others are open around it.
abbrev pub surface_in : ℕ → List Token → Read Surface
surface_in zero ts = code_at ts >>= λ c. Err (fault (at_token codes.NestLimit 65 64 c.0.1))
surface_in (suc room) ts = code_at ts >>= λ c. part_at (64 - room) c.0.0 c.1 >>= λ p. closed (surface_in room) p.0 p.1

-- A surface.
abbrev pub surface_at : List Token → Read Surface
surface_at ts = surface_in 64 ts
