use Rattle.std.proofs.Common.{List, Bool, ap, ◌∙◌}
use Rattle.std.specs.List.{list_any}
use Rattle.pel_bits.specs.Bits.{field}
use Rattle.pel_model.specs.Codes.{is_prefix}
use Rattle.vlc_codes.specs.declared.lookup.Table.TheVariants.{Mba, Mtype, Mvd, Cbp, CoefFirst, Coef}
use Rattle.vlc_codes.proofs.Computed.{codes_computed}
use Rattle.vlc_codes.proofs.lookup.begins_a_word.Goals as goal

pub returns-in-Mba : goal.returns-in-Mba
returns-in-Mba c =
    rw c.in-Mba.is (c.begins_a_code.ensures ∙ ap (λ (ws : List (List Bool)). list_any (λ w. is_prefix (field c.args.front c.args.len) w) ws) (codes_computed Mba))

pub returns-in-Mtype : goal.returns-in-Mtype
returns-in-Mtype c =
    rw c.in-Mtype.is (c.begins_a_code-in-Mtype.ensures ∙ ap (λ (ws : List (List Bool)). list_any (λ w. is_prefix (field c.args.front c.args.len) w) ws) (codes_computed Mtype))

pub returns-in-Mvd : goal.returns-in-Mvd
returns-in-Mvd c =
    rw c.in-Mvd.is (c.begins_a_code-in-Mvd.ensures ∙ ap (λ (ws : List (List Bool)). list_any (λ w. is_prefix (field c.args.front c.args.len) w) ws) (codes_computed Mvd))

pub returns-in-Cbp : goal.returns-in-Cbp
returns-in-Cbp c =
    rw c.in-Cbp.is (c.begins_a_code-in-Cbp.ensures ∙ ap (λ (ws : List (List Bool)). list_any (λ w. is_prefix (field c.args.front c.args.len) w) ws) (codes_computed Cbp))

pub returns-in-CoefFirst : goal.returns-in-CoefFirst
returns-in-CoefFirst c =
    rw c.in-CoefFirst.is (c.begins_a_code-in-CoefFirst.ensures ∙ ap (λ (ws : List (List Bool)). list_any (λ w. is_prefix (field c.args.front c.args.len) w) ws) (codes_computed CoefFirst))

pub returns-in-Coef : goal.returns-in-Coef
returns-in-Coef c =
    rw c.in-Coef.is (c.begins_a_code-in-Coef.ensures ∙ ap (λ (ws : List (List Bool)). list_any (λ w. is_prefix (field c.args.front c.args.len) w) ws) (codes_computed Coef))
