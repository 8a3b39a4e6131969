use Rattle.std.proofs.Common.{◌≡◌, ◌≤◌, ◌+◌, ◌-◌, ◌*◌, ◌++◌, [], List, length, ap, sym, subst, ◌∙◌, append-nil, arith}
use Rattle.h261_pic.specs.declared.coded.GroupView.{GroupView}
use Rattle.h261_pic.specs.Coded.{Coding, HasPicture, nothing}
use Rattle.h261_pic.specs.Sound.{written}
use Rattle.h261_pic.proofs.Grows.{started-picture, started-room}
use Rattle.h261_pic.proofs.Texts.{same_coding, length-picture_header}
use Rattle.pel_bits.specs.Buffer.{Buffer}
use Rattle.pel_model.specs.declared.Mark.{Mark}
use Rattle.pel_model.specs.Text.{picture_header}
use Rattle.pel_model.specs.Valid.{group_count, limit}
use Rattle.h261_pic.proofs.coded.Coded.start.Goals as goal

-- nothing was left
cleared : (c : goal.After-push_picture_header) → written c.self.inside ≡ nothing c.args.self.now.format
cleared c = c.self.view_is ∙ c.clear.ensures

list-is : (c : goal.After-push_picture_header) → c.push_picture_header.new.text.list ≡ picture_header c.self.inside.format c.args.tr
list-is c =
    ap (λ (b : Buffer). b.list) c.push_picture_header.ensures
    ∙ ap (λ (k : Coding). k.bits ++ picture_header c.self.inside.format c.args.tr) (cleared c)

pub invariant_of-self : goal.invariant_of-self
invariant_of-self c =
    let is : length c.push_picture_header.new.text.list ≡ length (picture_header c.self.inside.format c.args.tr) = ap length (list-is c) in
    let groups_are : c.self.inside.groups.items ≡ [] = ap (λ (k : Coding). k.groups) (cleared c) in
    let marks_are : c.self.inside.marks.items ≡ [] = ap (λ (k : Coding). k.marks) (cleared c) in
    let none : length c.self.inside.groups.items ≡ 0 = ap length groups_are in
    let room = started-room c.self.inside.format c.args.tr in
    let fits : length c.push_picture_header.new.text.list + 26 * (group_count c.self.inside.format - length c.self.inside.groups.items) ≤ limit c.self.inside.format =
    subst (λ n. length c.push_picture_header.new.text.list + 26 * (group_count c.self.inside.format - n) ≤ limit c.self.inside.format) (sym none) (omega arith) in
    record {
      capacity = ap (λ (b : Buffer). b.capacity) c.push_picture_header.ensures ∙ c.self.invariant.capacity;
      within = omega arith;
      groups = omega arith;
      room = λ _. fits;
      marks = omega (arith, ap length marks_are);
      picture = λ _. subst HasPicture
          (sym (same_coding c.self.inside.format c.args.tr c.push_picture_header.new.text.list (picture_header c.self.inside.format c.args.tr ++ [])
          c.self.inside.groups.items [] c.self.inside.marks.items []
          (list-is c ∙ sym (append-nil (picture_header c.self.inside.format c.args.tr))) groups_are marks_are))
          (started-picture c.self.inside.format c.args.tr c.requires);
      empty = λ none. absurd (omega (arith, is, ap length none, length-picture_header c.self.inside.format c.args.tr));
    }
