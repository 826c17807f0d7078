use Rattle.std.proofs.Common.{◌≡◌, eqb, refl}
use Rattle.std.proofs.lemmas.List.Elements.{contains_decides}
use Rattle.std.proofs.lemmas.Bool.Decides.{same_from_decides, Decides-by_or, Decides-eqb}
use Rattle.fields.specs.Codes.{among}
use Rattle.fields.proofs.codes.is_listed.Goals as goal

pub returns : goal.returns
returns c =
    let list = c.args.list.now in
    let code = c.args.code in
    same_from_decides c.contains.result (among code list)
    (contains_decides eqb Decides-eqb list code c.contains.result c.contains.ensures.cases)
    (Decides-by_or (λ x. eqb x code) (λ x. x ≡ code) (among code) (λ x. Decides-eqb x code) refl (λ _ _. refl) list)
