use Rattle.std.proofs.Common.{[], map, sym, ap, subst, lit<, rules}
use Rattle.std.specs.List.{IsDistinct}
use Rattle.rb_trees.specs.mirror.Declarations.{mirror_class}
use Rattle.rb_meaning_types.specs.Lawful.{IsLawfulService}
use Rattle.rb_checking_tests.proofs.types.services.a_service_without_classes_is_typed.Goals as goal

no_classes : IsLawfulService []
unfolding IsDistinct
no_classes = record { each = search rules; class_count = lit< tt; depths = search rules; positions = search rules }

pub check_service-requires : goal.check_service-requires
check_service-requires c = subst IsLawfulService (sym (ap (map mirror_class) c.new.ensures)) no_classes
