use Rattle.std.specs.List.{flat_map, filter_map}
use Rattle.jesc_arithmetic.specs.Operations.{operation_of, same_operation}
use Rattle.jesc_arithmetic.specs.Occurrences.{terms_in}
use Rattle.jesc_arithmetic.proofs.Sameness.{Decides-same_operation}
use Rattle.jesc_arithmetic.proofs.Gathering.{firsts_apart}
use Rattle.jesc_arithmetic.proofs.Standing.{operation_stands, operation_listed}
use Rattle.jesc_arithmetic.proofs.law.operations_stand.Goals as goal

pub returns : goal.returns
returns c = record {
  those = λ claims o. (operation_stands claims o, operation_listed claims o);
  once = λ claims. firsts_apart same_operation Decides-same_operation (filter_map operation_of (flat_map terms_in claims));
}
