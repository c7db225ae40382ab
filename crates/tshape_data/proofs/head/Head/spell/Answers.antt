-- The first piece, and what stands behind it.
use Rattle.std.proofs.Common.{◌≡◌, ◌∷◌, ◌++◌, [], append-nil, ap, ◌∙◌}
use Rattle.std.specs.Fmt.{decimal}
use Rattle.brep_tokens.specs.Forms.{flag_text}
use Rattle.orientation.specs.Kinds.{name_of}
use Rattle.tshape_data.specs.Flags.{spell_flags}
use Rattle.tshape_data.specs.Parts.{edge_flags}
use Rattle.tshape_data.specs.SpellLeft.{chunk_left, edges_left, points_left}
use Rattle.tshape_data.proofs.PayloadTexts.{mesh_texts}
use Rattle.tshape_data.proofs.SpellLaws.{edge_begins, face_begins, vertex_begins}
use Rattle.tshape_data.proofs.head.Head.spell.Goals as goal

pub returns-in-Vertex-clause-left : goal.returns-in-Vertex-clause-left
returns-in-Vertex-clause-left c =
    let h = c.args.self.now in
    let d = c.in-Vertex.d in
    let joined : chunk_left c.words_around-chunk.result ≡ (name_of h.kind ∷ []) ++ (d.texts ++ []) =
    cc (c.words_around-chunk.ensures.left, c.one.ensures, c.all.ensures, c.none.ensures) in
    let chunk : chunk_left c.words_around-chunk.result ≡ name_of h.kind ∷ d.texts =
    joined ∙ ap (λ z. name_of h.kind ∷ z) (append-nil d.texts) in
    c.piece.ensures.left ∙ ap (λ z. z ++ points_left h.flags c.as_slice-points.result.now) chunk
    ∙ ap (λ z. (name_of h.kind ∷ d.texts) ++ points_left h.flags z) c.as_slice-points.ensures
    ∙ vertex_begins c.args.version h d c.in-Vertex.is

pub returns-in-Edge-clause-left : goal.returns-in-Edge-clause-left
returns-in-Edge-clause-left c =
    let h = c.args.self.now in
    let d = c.in-Edge.d in
    let chunk : chunk_left c.words_around-chunk-in-Edge.result ≡ (name_of h.kind ∷ [])
    ++ (d.tolerance ++ edge_flags d) =
    cc (
      c.words_around-chunk-in-Edge.ensures.left,
      c.one-in-Edge.ensures,
      c.all-in-Edge.ensures,
      c.edge_flag_words.ensures,
    ) in
    c.piece-in-Edge.ensures.left ∙ ap (λ z. z ++ edges_left c.args.version h.flags c.as_slice-reps.result.now) chunk
    ∙ ap (λ z. (name_of h.kind ∷ (d.tolerance ++ edge_flags d)) ++ edges_left c.args.version h.flags z)
    c.as_slice-reps.ensures ∙ edge_begins c.args.version h d c.in-Edge.is

pub returns-in-Face-clause-left : goal.returns-in-Face-clause-left
returns-in-Face-clause-left c =
    let h = c.args.self.now in
    let d = c.in-Face.d in
    let end = decimal d.surface ∷ decimal d.location ∷ mesh_texts d.mesh in
    let chunk : chunk_left c.words_around-chunk-in-Face.result ≡ (name_of h.kind ∷ flag_text d.natural ∷ [])
    ++ (d.tolerance ++ end) =
    cc (c.words_around-chunk-in-Face.ensures.left, c.two.ensures, c.all-in-Face.ensures, c.face_words.ensures) in
    c.piece-in-Face.ensures.left ∙ ap (λ z. z ++ spell_flags h.flags ∷ []) chunk
    ∙ face_begins c.args.version h d c.in-Face.is
